-- What a session sees, and what its commands reply, over other records that agree on the names that it shares.
use Rattle.std.proofs.Common.{◌≡◌, ◌⊎◌, inl, inr, ℕ, ◌==◌, Bool, true, false, cond, not, ◌&&◌, ◌||◌, List, [], ◌∷◌, ◌++◌, Option, Some, None, refl, sym, ◌∙◌, ap}
use Rattle.std.specs.Prelude.{is_some}
use Rattle.std.specs.Option.{option_map_or}
use Rattle.std.specs.FinMap.{get}
use Rattle.std.proofs.lemmas.Bool.{eq-eqb}
use Rattle.ipl_model.specs.State.{Map, Session, State, Limits, last_write, has_written, has_shared, seen_through}
use Rattle.ipl_model.specs.declared.command.Command.{Command}
use Rattle.ipl_model.specs.declared.command.Command.TheVariants as command
use Rattle.ipl_model.specs.declared.reply.Reply.{Reply}
use Rattle.ipl_model.specs.Step.{step, found_reply}
use Rattle.ipl_model.specs.Run.{after_all}
use Rattle.serial_view.specs.Laws.{replies, reads_unlocked}
use Rattle.serial_view.proofs.SessionLemmas.{shared_too, is_unheld, is_unheld_in, same_some}
use Rattle.serial_view.proofs.TestLemmas.{worker}
use Rattle.serial_view.proofs.StepLemmas.{changed, said}
use Rattle.serial_view.proofs.LockLemmas.{Agree}

-- replies of one part after another
pub replies-append : (limits : Limits) (state : State) (cs ds : List Command)
    → replies limits state (cs ++ ds) ≡ replies limits state cs ++ replies limits (after_all limits state cs) ds
replies-append limits state [] ds = refl
replies-append limits state (c ∷ cs) ds =
    ap (λ (l : List (List Reply)). (step limits state c).1 ∷ l) (replies-append limits (step limits state c).0 cs ds)

-- what a session shares it goes on sharing
pub shares_on : (c : Command) (x : Session) (j : ℕ) → has_shared x j ≡ true → has_shared (changed c x) j ≡ true
shares_on (command.Share s n) x j e = go (is_unheld x n)
  where
    or_true : (a : Bool) → (a || true) ≡ true
    or_true true = refl
    or_true false = refl

    go : (b : Bool) → has_shared (cond b (shared_too x n) x) j ≡ true
    go true = ap (λ (b : Bool). (n == j) || b) e ∙ or_true (n == j)
    go false = e
shares_on other x j e = e

-- the session sees the same of the name in both maps
abbrev SeesAlike : Session → Map → Map → ℕ → Type 0
SeesAlike x m n j = seen_through x.writes m j ≡ seen_through x.writes n j

-- so of a name that it wrote, or whose record is the same
seen_alike : (x : Session) (m n : Map) (j : ℕ) → (has_written x j ≡ true) ⊎ (get m j ≡ get n j) → SeesAlike x m n j
seen_alike x m n j (inl wrote) = go (last_write x.writes j) wrote
  where
    go : (o : Option (Option (List ℕ))) → is_some o ≡ true
        → option_map_or (λ change. change) o (get m j) ≡ option_map_or (λ change. change) o (get n j)
    go None e = absurd (cc)
    go (Some change) e = refl
seen_alike x m n j (inr same) =
    ap (λ (v : Option (List ℕ)). option_map_or (λ change. change) (last_write x.writes j) v) same

-- and of a name that it wrote or shares, where the records of its shared names agree
seen_held : (x : Session) (m n : Map) (j : ℕ) → is_unheld x j ≡ false → Agree x m n → SeesAlike x m n j
seen_held x m n j held agree = go (has_written x j) (has_shared x j) refl refl held
  where
    go : (w h : Bool) → has_written x j ≡ w → has_shared x j ≡ h → (not w && not h) ≡ false → SeesAlike x m n j
    go true h wrote shares e = seen_alike x m n j (inl wrote)
    go false true wrote shares e = seen_alike x m n j (inr (agree j shares))
    go false false wrote shares e = absurd (cc)

-- A command of a session has the same reply over other records, where those of its shared names agree, and it gets
-- no name that the session neither wrote nor shares.
pub said_alike : (state : State) (c : Command) (s : ℕ) (x : Session) (m : Map) → worker c ≡ Some s
    → get state.sessions s ≡ Some x → reads_unlocked state c ≡ false → Agree (changed c x) m state.map
    → said c x m ≡ said c x state.map
said_alike state (command.Get t n) s x m e found locked agree =
    let there : get state.sessions t ≡ Some x = ap (get state.sessions) (same_some t s e) ∙ found in
    let held : is_unheld x n ≡ false = ap (λ (o : Option Session). is_unheld_in o n) (sym there) ∙ locked in
    ap (λ (v : Option (List ℕ)). found_reply v ∷ []) (seen_held x m state.map n held agree)
said_alike state (command.Share t n) s x m e found locked agree =
    ap (λ (v : Option (List ℕ)). found_reply v ∷ []) (go (is_unheld x n) refl agree)
  where
    go : (b : Bool) → is_unheld x n ≡ b → Agree (cond b (shared_too x n) x) m state.map → SeesAlike x m state.map n
    go true is agree =
        let same = agree n (ap (λ (b : Bool). b || has_shared x n) (eq-eqb n n refl)) in
        seen_alike x m state.map n (inr same)
    go false is agree = seen_held x m state.map n is agree
said_alike state other s x m e found locked agree = refl
