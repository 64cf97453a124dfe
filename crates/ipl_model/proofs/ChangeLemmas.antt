-- What a change of the plain model's slots is to the state that it stands for.
use Rattle.std.proofs.Common.{◌≡◌, ℕ, ◌<◌, List, [], ◌∷◌, ◌++◌, length, map, set, get_or, Option, Some, None, Result, Ok, Err, refl, sym, ◌∙◌, ap, arith}
use Rattle.std.specs.FinMap.{FinMap, get, insert, remove, empty, get-empty}
use Rattle.std.specs.Option.{option_map_or}
use Rattle.std.specs.Result.{OnOk, OnErr}
use Rattle.std.specs.Ordering.{nat_cmp}
use Rattle.std.proofs.lemmas.List.{map-set, length-map}
use Rattle.std.proofs.Math.Seq.{map-set_same}
use Rattle.ipl_model.specs.State.{Map, Write, Session, State, with_writes, writes_of, last_write}
use Rattle.ipl_model.proofs.SeenLemmas.{get-with_writes}
use Rattle.ipl_model.specs.Operations.{after_commit}
use Rattle.ipl_model.specs.declared.plain_model.log.LoggedSession as plain
use Rattle.ipl_model.specs.Slots.{opened}
use Rattle.ipl_model.specs.Plain.{slot_of, session_of}
use Rattle.ipl_model.proofs.RuleSlotLemmas.{opened_at, opened-set_some, opened-set_none}
use Rattle.ipl_model.proofs.SlotLemmas.{slot_read}

-- the state of these records and slots
abbrev pub standing : Map → List (Option plain.LoggedSession) → State
standing m sessions = record { map = m; sessions = opened (map slot_of sessions) }

-- the state with the session in a slot changed
abbrev pub with_session : (Session → Session) → State → ℕ → State
with_session f state s = option_map_or (λ session. record state { sessions = insert state.sessions s (f session) }) (get state.sessions s) state

pub with_writes-append : (a b : List Write) (m : Map) → with_writes (a ++ b) m ≡ with_writes a (with_writes b m)
with_writes-append [] b m = refl
with_writes-append (w ∷ a) b m = ap (λ (n : Map). option_map_or (λ value. insert n w.0 value) w.1 (remove n w.0)) (with_writes-append a b m)

pub on_err : {T E P : Type 0} (r : Result T E) → P → OnErr r P
on_err (Ok x) p = tt
on_err (Err e) p = p

module _ (m : Map) (sessions : List (Option plain.LoggedSession)) (s : ℕ) (within : s < length sessions) where
  slots_within : s < length (map slot_of sessions)
  slots_within = omega (arith, length-map sessions slot_of, within)

  -- what the slot holds is what the state has there
  pub found : (o : Option plain.LoggedSession) → o ≡ get_or sessions s o → get (standing m sessions).sessions s ≡ slot_of o
  found o is = opened_at (map slot_of sessions) s ∙ slot_read sessions s o within is

  pub opens : (x : plain.LoggedSession) → standing m (set sessions s (Some x)) ≡ record (standing m sessions) { sessions = insert (standing m sessions).sessions s (session_of x) }
  opens x = ap (λ (f : FinMap nat_cmp Session). record { map = m; sessions = f })
      (ap opened (map-set slot_of sessions s (Some x)) ∙ opened-set_some (map slot_of sessions) s (session_of x) slots_within)

  pub closes : standing m (set sessions s None) ≡ record (standing m sessions) { sessions = remove (standing m sessions).sessions s }
  closes = ap (λ (f : FinMap nat_cmp Session). record { map = m; sessions = f })
      (ap opened (map-set slot_of sessions s None) ∙ opened-set_none (map slot_of sessions) s slots_within)

  -- a slot that the state can't tell from what it was
  pub keeps : (o y : Option plain.LoggedSession) → o ≡ get_or sessions s o → slot_of y ≡ slot_of o → standing m (set sessions s y) ≡ standing m sessions
  keeps o y is same = ap (λ (slots : List (Option Session)). record { map = m; sessions = opened slots }) (map-set_same slot_of sessions s y o (same ∙ ap slot_of is))

  pub changes : (f : Session → Session) (o : Option plain.LoggedSession) (x y : plain.LoggedSession) → o ≡ get_or sessions s o → o ≡ Some x → session_of y ≡ f (session_of x)
      → standing m (set sessions s (Some y)) ≡ with_session f (standing m sessions) s
  changes f o x y is open_is changed =
      opens y ∙ ap (λ (session : Session). record (standing m sessions) { sessions = insert (standing m sessions).sessions s session }) changed
      ∙ sym (ap (λ (found_is : Option Session). option_map_or (λ session. record (standing m sessions) { sessions = insert (standing m sessions).sessions s (f session) }) found_is (standing m sessions))
      (found o is ∙ ap slot_of open_is))

  -- where no session is open there, nothing changes
  pub changes_nothing : (f : Session → Session) (o : Option plain.LoggedSession) → o ≡ get_or sessions s o → slot_of o ≡ None → standing m (set sessions s (get_or sessions s o)) ≡ with_session f (standing m sessions) s
  changes_nothing f o is none =
      keeps o (get_or sessions s o) is (ap slot_of (sym is))
      ∙ sym (ap (λ (found_is : Option Session). option_map_or (λ session. record (standing m sessions) { sessions = insert (standing m sessions).sessions s (f session) }) found_is (standing m sessions))
      (found o is ∙ none))

-- ---- a commit

pub on_ok_both : {T E P Q R : Type 0} (r : Result T E) → (P → Q → R) → OnOk r P → OnOk r Q → OnOk r R
on_ok_both (Ok x) f p q = f p q
on_ok_both (Err e) f p q = tt

module _ (old new : List Write) (sessions : List (Option plain.LoggedSession)) (s : ℕ) (within : s < length sessions) (o y : Option plain.LoggedSession) (is : o ≡ get_or sessions s o) where
  writes_are : writes_of (standing (with_writes old empty) sessions) s ≡ option_map_or (λ session. session.writes) (slot_of (get_or sessions s o)) []
  writes_are = ap (λ (q : Option Session). option_map_or (λ session. session.writes) q []) (found (with_writes old empty) sessions s within o is ∙ ap slot_of is)

  -- the log has the session's writes behind the others, and its slot is empty
  pub commits : new ≡ option_map_or (λ session. session.writes) (slot_of (get_or sessions s o)) [] ++ old → y ≡ None
      → standing (with_writes new empty) (set sessions s y) ≡ after_commit (standing (with_writes old empty) sessions) s
  commits moved none =
      ap (λ (x : Option plain.LoggedSession). standing (with_writes new empty) (set sessions s x)) none
      ∙ closes (with_writes new empty) sessions s within
      ∙ ap (λ (m : Map). record { map = m; sessions = remove (opened (map slot_of sessions)) s })
      (ap (λ (ws : List Write). with_writes ws empty) moved ∙ with_writes-append (option_map_or (λ session. session.writes) (slot_of (get_or sessions s o)) []) old empty
      ∙ ap (λ (ws : List Write). with_writes ws (with_writes old empty)) (sym writes_are))

  -- neither the log nor the slot is changed
  pub stays : new ≡ old → slot_of y ≡ slot_of (get_or sessions s o) → standing (with_writes new empty) (set sessions s y) ≡ standing (with_writes old empty) sessions
  stays same kept = ap (λ (ws : List Write). standing (with_writes ws empty) (set sessions s y)) same ∙ keeps (with_writes old empty) sessions s within o y is (kept ∙ ap slot_of (sym is))

-- ---- records

-- the record of a name is its newest committed write
pub record_is : (log : List Write) (n : ℕ) → get (with_writes log empty) n ≡ option_map_or (λ change. change) (last_write log n) None
record_is log n = get-with_writes log empty n ∙ ap (option_map_or (λ change. change) (last_write log n)) (get-empty nat_cmp n)
