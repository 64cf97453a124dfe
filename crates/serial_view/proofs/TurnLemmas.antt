-- The turns of a session and the serial view, one command on.
use Rattle.std.proofs.Common.{◌≡◌, ◌⊎◌, inl, inr, ℕ, suc, Bool, true, false, cond, ◌&&◌, List, [], ◌∷◌, ◌++◌, refl, ◌∙◌, ap, add-one}
use Rattle.std.specs.List.{range_with_len, flat_map}
use Rattle.std.proofs.lemmas.Bool.{and_parts, and_left, and_right, eq-eqb}
use Rattle.std.proofs.lemmas.List.{append-nil}
use Rattle.std.proofs.lemmas.List.Concat.{flat_map-append}
use Rattle.ipl_model.specs.State.{Map, Limits}
use Rattle.ipl_model.specs.declared.command.Command.{Command}
use Rattle.ipl_model.specs.declared.command.Command.TheVariants as command
use Rattle.serial_view.specs.Serial.{command_at, is_accepted, is_begin, is_turn, begins, turns, commits_at, committed_at}
use Rattle.ipl_model.specs.Laws.{is_commit}
use Rattle.serial_view.proofs.SessionStepLemmas.{own}
use Rattle.serial_view.proofs.SinceLemmas.{upto_more, since_begun, since_on, since_same}

module _ (limits : Limits) (m : Map) (commands : List Command) where
  -- an accepted command is a turn of its session alone
  pub turn_is : (s k : ℕ) (b : Bool) → is_accepted limits m commands k ≡ true → own s (command_at commands k) ≡ b
      → is_turn limits m commands s k ≡ b
  turn_is s k b ok e = ap (λ (a : Bool). a && own s (command_at commands k)) ok ∙ e

  -- and an accepted begin begins
  pub begins_is : (s k : ℕ) → is_accepted limits m commands k ≡ true → command_at commands k ≡ command.Begin s
      → begins limits m commands s k ≡ true
  begins_is s k ok is =
      ap (λ (a : Bool). a && is_begin (command_at commands k))
      (turn_is s k true ok (ap (own s) is ∙ eq-eqb s s refl))
      ∙ ap is_begin is

  pub turns_begun : (s k : ℕ) → begins limits m commands s k ≡ true → turns limits m commands s (suc k) ≡ k ∷ []
  turns_begun s k b = since_begun (is_turn limits m commands s) (begins limits m commands s) k b (and_parts _ _ b).0

  pub turns_on : (s k : ℕ) → is_begin (command_at commands k) ≡ false → is_turn limits m commands s k ≡ true
      → turns limits m commands s (suc k) ≡ turns limits m commands s k ++ k ∷ []
  turns_on s k b t = since_on (is_turn limits m commands s) (begins limits m commands s) k (and_right _ _ b) t

  pub turns_same : (s k : ℕ) → is_turn limits m commands s k ≡ false
      → turns limits m commands s (suc k) ≡ turns limits m commands s k
  turns_same s k t = since_same (is_turn limits m commands s) (begins limits m commands s) k (and_left _ _ t) t

  -- the serial view of the commands before position k
  abbrev pub serial_until : ℕ → List ℕ
  serial_until k = flat_map (committed_at limits m commands) (range_with_len 0 k)

  pub serial_more : (k : ℕ) → serial_until (suc k) ≡ serial_until k ++ committed_at limits m commands k
  serial_more k =
      ap (flat_map (committed_at limits m commands)) (upto_more k)
      ∙ flat_map-append (committed_at limits m commands) (range_with_len 0 k) (k ∷ [])
      ∙ ap (λ (l : List ℕ). serial_until k ++ l) (append-nil (committed_at limits m commands k))

  -- what a command brings into the view, where it is accepted
  abbrev committed : ℕ → Bool → Command → List ℕ
  committed k accepted c = cond accepted (commits_at limits m commands k c) []

  not_commits : (k : ℕ) (c : Command) → is_commit c ≡ false → commits_at limits m commands k c ≡ []
  not_commits k (command.Commit s) e = absurd (cc)
  not_commits k (command.Batch ss) e = absurd (cc)
  not_commits k other e = refl

  commits_none : (k : ℕ) → (is_accepted limits m commands k ≡ false) ⊎ (is_commit (command_at commands k) ≡ false)
      → committed_at limits m commands k ≡ []
  commits_none k (inl e) = ap (λ (b : Bool). committed k b (command_at commands k)) e
  commits_none k (inr e) =
      ap (λ (l : List ℕ). cond (is_accepted limits m commands k) l []) (not_commits k (command_at commands k) e)
      ∙ go (is_accepted limits m commands k)
    where
      go : (b : Bool) → cond {A = List ℕ} b [] [] ≡ []
      go true = refl
      go false = refl

  -- where nothing is committed the view stays
  pub serial_same : (k : ℕ) → (is_accepted limits m commands k ≡ false) ⊎ (is_commit (command_at commands k) ≡ false)
      → serial_until (suc k) ≡ serial_until k
  serial_same k why =
      serial_more k ∙ ap (λ (l : List ℕ). serial_until k ++ l) (commits_none k why) ∙ append-nil (serial_until k)

  pub commits_turns : (k s : ℕ) → is_accepted limits m commands k ≡ true → command_at commands k ≡ command.Commit s
      → committed_at limits m commands k ≡ turns limits m commands s k ++ k ∷ []
  commits_turns k s ok is =
      ap (λ (b : Bool). committed k b (command_at commands k)) ok
      ∙ ap (committed k true) is
      ∙ ap (turns limits m commands s) (add-one k)
      ∙ turns_on s k (ap is_begin is) (turn_is s k true ok (ap (own s) is ∙ eq-eqb s s refl))

  pub batch_turns : (k : ℕ) (ss : List ℕ) → is_accepted limits m commands k ≡ true
      → command_at commands k ≡ command.Batch ss
      → committed_at limits m commands k ≡ flat_map (λ s. turns limits m commands s k) ss ++ k ∷ []
  batch_turns k ss ok is = ap (λ (b : Bool). committed k b (command_at commands k)) ok ∙ ap (committed k true) is
