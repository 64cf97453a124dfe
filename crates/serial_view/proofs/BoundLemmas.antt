-- What holds of the open sessions of every run: no two of them wrote one name, of no unit their names are too heavy,
-- and each page that one of them put on has room. So each may stand beside any others of them, over the same records.
use Rattle.std.proofs.Common.{◌≡◌, ◌⊎◌, inl, inr, ℕ, ◌/◌, ◌≤◌, ◌==◌, Bool, true, false, cond, ◌||◌, List, [], Some, None, refl, sym, ◌∙◌, ap, subst, arith}
use Rattle.std.specs.Prelude.{is_some}
use Rattle.std.specs.FinMap.{get, insert, empty}
use Rattle.std.proofs.lemmas.Bool.{cases_eq, eqb-true, or_cases, or_parts}
use Rattle.ipl_base.specs.declared.limits.TheConstants.{SLOTS}
use Rattle.ipl_model.specs.State.{Map, Session, State, Limits, at_rest, has_written, has_shared, least_other}
use Rattle.ipl_model.specs.Peaks.{peaks, overfills}
use Rattle.ipl_model.specs.FillLaws.{PageFits, UnitsFit}
use Rattle.ipl_model.specs.Operations.{after_write}
use Rattle.ipl_model.proofs.RulePeakLemmas.{by_number}
use Rattle.ipl_model.proofs.FillLemmas.{pages_stay_fit, puts_make_pages_fit}
use Rattle.ipl_model.proofs.WeightLemmas.{weights_less, weights_none, units_stay_fit}
use Rattle.ipl_model.specs.declared.command.Command.{Command}
use Rattle.ipl_model.specs.declared.command.Command.TheVariants as command
use Rattle.ipl_model.specs.Step.{refusal_of, accepted}
use Rattle.serial_view.proofs.MemberLemmas.{PartOf, part_less}
use Rattle.serial_view.proofs.SessionLemmas.{Sessions, with_session, shared_too, is_unheld, same_some, none_open, get_inserted, get_other}
use Rattle.serial_view.proofs.TestLemmas.{worker, all_fail, put_tests, del_tests}
use Rattle.serial_view.proofs.BesideLemmas.{Beside, puts_on, fewer_fit, page_fits}
use Rattle.serial_view.proofs.StepLemmas.{changed}
use Rattle.serial_view.proofs.SessionStepLemmas.{Worked, After, how}
use Rattle.serial_view.proofs.LockLemmas.{Locked, no_other, writes, written_then}

-- no two open sessions wrote one name
abbrev pub Sole : Sessions → Type 0
Sole f = (s u : ℕ) (x y : Session) → get f s ≡ Some x → get f u ≡ Some y → (s ≡ u → ⊥)
    → (n : ℕ) → has_written x n ≡ true → has_written y n ≡ false

-- each page that an open session put on has room for whatever comes of the open sessions
abbrev pub Filled : State → Type 0
Filled state = (s : ℕ) (x : Session) (page : ℕ) → get state.sessions s ≡ Some x → puts_on x.writes page ≡ true
    → PageFits state page

pub none_sole : Sole empty
none_sole s u x y here there other n is = absurd (none_open s x here)

pub none_heavy : (m : Map) → UnitsFit (at_rest m)
none_heavy m unit = omega (arith, weights_less (peaks (at_rest m)) (λ n. 0) unit none, weights_none unit)
  where
    none : (n : ℕ) → peaks (at_rest m) n ≤ 0
    none n = by_number empty n 0 (λ s x found. absurd (none_open s x found))

pub none_filled : (m : Map) → Filled (at_rest m)
none_filled m s x page found put = absurd (none_open s x found)

-- ---- a command keeps all three

written_before : (c : Command) (x : Session) (k : ℕ) → has_written (changed c x) k ≡ true
    → (has_written x k ≡ true) ⊎ (writes c k ≡ true)
written_before c x k is = go (has_written x k) (writes c k) refl refl
  where
    go : (a b : Bool) → has_written x k ≡ a → writes c k ≡ b → (has_written x k ≡ true) ⊎ (writes c k ≡ true)
    go true b old new = inl old
    go false true old new = inr new
    go false false old new =
        let none = written_then c x k old new in
        absurd (cc)

-- a page that is put on after a command was before, or the command puts on it
put_before : (c : Command) (x : Session) (page : ℕ) → puts_on (changed c x).writes page ≡ true
    → (puts_on x.writes page ≡ true)
    ⊎ ((t n : ℕ) × (bytes : List ℕ) × (c ≡ command.Put t n bytes) × (n / SLOTS ≡ page))
put_before (command.Share s k) x page e = go (is_unheld x k) e
  where
    go : (b : Bool) → puts_on (cond b (shared_too x k) x).writes page ≡ true
        → (puts_on x.writes page ≡ true)
        ⊎ ((t n : ℕ) × (bytes : List ℕ) × (command.Share s k ≡ command.Put t n bytes) × (n / SLOTS ≡ page))
    go true e = inl e
    go false e = inl e
put_before (command.Put s k bytes) x page e = elim (or_cases (k / SLOTS == page) (puts_on x.writes page) e) [
  | inl here ↦ inr (s, k, bytes, refl, eqb-true (k / SLOTS) page here)
  | inr old ↦ inl old
]
put_before other x page e = inl e

module _ (limits : Limits) (state : State) where
  wrote_none : (n t s u : ℕ) (y : Session) (k : ℕ) → (n == k) ≡ true → Some t ≡ Some s
      → get state.sessions u ≡ Some y → (s ≡ u → ⊥)
      → is_some (least_other (λ session. has_written session n || has_shared session n) state t) ≡ false
      → has_written y k ≡ false
  wrote_none n t s u y k is e found other free =
      subst (λ (j : ℕ). has_written y j ≡ false) (eqb-true n k is)
      (or_parts _ _ (no_other (λ session. has_written session n || has_shared session n) state t u y found
      (λ j. other (sym (same_some t s e) ∙ j)) free)).0

  -- a name that a command writes no other session wrote
  sole_write : (c : Command) (s u : ℕ) (y : Session) (k : ℕ) → refusal_of limits state c ≡ None
      → worker c ≡ Some s → writes c k ≡ true → get state.sessions u ≡ Some y → (s ≡ u → ⊥)
      → has_written y k ≡ false
  sole_write (command.Put t n bytes) s u y k passes e is found other =
      let f = all_fail (put_tests limits state t n bytes) passes in
      wrote_none n t s u y k is e found other f.1.1.1.1.0
  sole_write (command.Del t n) s u y k passes e is found other =
      let f = all_fail (del_tests limits state t n) passes in
      wrote_none n t s u y k is e found other f.1.1.1.0
  sole_write rest s u y k passes e is found other = absurd (cc)

  pub sole_kept : (c : Command) → refusal_of limits state c ≡ None → Sole state.sessions
      → Sole (accepted state c).0.sessions
  sole_kept c passes sole s u x y here there other n is = go (how state c s x here) (how state c u y there)
    where
      not_written : (b : Worked state c u y) → get state.sessions s ≡ Some x → (t : Bool) → writes c n ≡ t
          → writes c n ≡ false
      not_written b old true e =
          let free = sole_write c u s x n passes b.2 e old (λ k. other (sym k)) in
          absurd (cc)
      not_written b old false e = e

      go : After state c s x → After state c u y → has_written y n ≡ false
      go (inl a) (inl b) = sole s u x y a.0 b.0 other n is
      go a (inr (inl b)) = ap (λ (z : Session). has_written z n) b.1
      go (inr (inl a)) b =
          let none : has_written x n ≡ false = ap (λ (z : Session). has_written z n) a.1 in
          absurd (cc)
      go (inr (inr a)) (inl b) =
          elim (written_before c a.0 n (sym (ap (λ (z : Session). has_written z n) a.3) ∙ is)) [
            | inl old ↦ sole s u a.0 y a.1 b.0 other n old
            | inr new ↦ sole_write c s u y n passes a.2 new b.0 other
          ]
      go (inl a) (inr (inr b)) =
          ap (λ (z : Session). has_written z n) b.3
          ∙ written_then c b.0 n (sole s u x b.0 a.0 b.1 other n is) (not_written b a.0 (writes c n) refl)
      go (inr (inr a)) (inr (inr b)) = absurd (other (same_some s u (sym a.2 ∙ b.2)))

  -- no unit's names get too heavy
  pub units_kept : (c : Command) → refusal_of limits state c ≡ None → UnitsFit state → UnitsFit (accepted state c).0
  units_kept (command.Begin s) passes old = (units_stay_fit state s 0 (0, None) old).begins
  units_kept (command.Get s n) passes old = old
  units_kept (command.Share s n) passes old = (units_stay_fit state s n (0, None) old).shares
  units_kept (command.Put t n bytes) passes old =
      let f = all_fail (put_tests limits state t n bytes) passes in
      (units_stay_fit state t n (n, Some bytes) old).writes f.1.1.1.1.1.1.0
  units_kept (command.Del t n) passes old =
      let f = all_fail (del_tests limits state t n) passes in
      (units_stay_fit state t n (n, None) old).writes f.1.1.1.1.1.0
  units_kept (command.Commit s) passes old = (units_stay_fit state s 0 (0, None) old).commits
  units_kept (command.Batch ss) passes old = (units_stay_fit state 0 0 (0, None) old).batches ss
  units_kept (command.Abort s) passes old = (units_stay_fit state s 0 (0, None) old).aborts
  units_kept (command.List a b) passes old = old
  units_kept (command.Merge u) passes old = old
  units_kept command.Restart passes old = (units_stay_fit state 0 0 (0, None) old).restarts
  units_kept command.Syntax passes old = old

  has_room : (t n : ℕ) (bytes : List ℕ) → refusal_of limits state (command.Put t n bytes) ≡ None
      → overfills state n bytes ≡ false
  has_room t n bytes passes = (all_fail (put_tests limits state t n bytes) passes).1.1.1.1.1.1.1.0

  -- a page that has room goes on to have it
  page_kept : (c : Command) → refusal_of limits state c ≡ None → (page : ℕ) → PageFits state page
      → PageFits (accepted state c).0 page
  page_kept (command.Begin s) passes page old = (pages_stay_fit state s 0 [] page old).begins
  page_kept (command.Get s n) passes page old = old
  page_kept (command.Share s n) passes page old = (pages_stay_fit state s n [] page old).shares
  page_kept (command.Put t n bytes) passes page old =
      (pages_stay_fit state t n bytes page old).puts (has_room t n bytes passes)
  page_kept (command.Del t n) passes page old = (pages_stay_fit state t n [] page old).dels
  page_kept (command.Commit s) passes page old = (pages_stay_fit state s 0 [] page old).commits
  page_kept (command.Batch ss) passes page old = (pages_stay_fit state 0 0 [] page old).batches ss
  page_kept (command.Abort s) passes page old = (pages_stay_fit state s 0 [] page old).aborts
  page_kept (command.List a b) passes page old = old
  page_kept (command.Merge u) passes page old = old
  page_kept command.Restart passes page old = (pages_stay_fit state 0 0 [] page old).restarts
  page_kept command.Syntax passes page old = old

  -- and one that a session puts on has it from then on
  pub filled_kept : (c : Command) → refusal_of limits state c ≡ None → Filled state → Filled (accepted state c).0
  filled_kept c passes filled s y page found put = go (how state c s y found)
    where
      before : (x : Session) → get state.sessions s ≡ Some x → puts_on x.writes page ≡ true
          → PageFits (accepted state c).0 page
      before x there old = page_kept c passes page (filled s x page there old)

      go : After state c s y → PageFits (accepted state c).0 page
      go (inl a) = before y a.0 put
      go (inr (inl b)) = absurd (let none = ap (λ (z : Session). puts_on z.writes page) b.1 in cc)
      go (inr (inr w)) = elim (put_before c w.0 page (ap (λ (z : Session). puts_on z.writes page) (sym w.3) ∙ put)) [
        | inl old ↦ before w.0 w.1 old
        | inr new ↦
            subst (λ (d : Command). PageFits (accepted state d).0 page) (sym new.3)
            (subst (λ (p : ℕ). PageFits (after_write state new.0 (new.1, Some new.2)) p) new.4
            (puts_make_pages_fit state new.0 new.1 new.2
            (has_room new.0 new.1 new.2 (subst (λ (d : Command). refusal_of limits state d ≡ None) new.3 passes))))
      ]

-- ---- so each may stand beside others of the run

pub may_stand : (B state : State) (s : ℕ) (x : Session) → Locked state.sessions → Sole state.sessions → UnitsFit state
    → Filled state → B.map ≡ state.map → PartOf B.sessions state.sessions → get state.sessions s ≡ Some x
    → get B.sessions s ≡ None → Beside B s x
may_stand B state s x locked sole light filled maps part found shut = record {
  shut = shut;
  apart = λ t y there.
      let other : s ≡ t → ⊥ = λ same. (let none : get B.sessions t ≡ None = ap (get B.sessions) (sym same) ∙ shut in absurd (cc)) in
      record {
        writes = λ n is.
            let none_wrote = sole s t x y found (part t y there) other n is in
            let none_shares = not_shared t y (part t y there) (λ k. other (sym k)) n is (has_shared y n) refl in
            ap (λ (b : Bool). b || has_shared y n) none_wrote ∙ none_shares;
        shares = λ n is. locked s t x y found (part t y there) other n is;
      };
  few = fewer_fit state (with_session B s x) less light;
  room = λ page put. page_fits state (with_session B s x) maps less page (filled s x page found put);
}
  where
    not_shared : (t : ℕ) (y : Session) → get state.sessions t ≡ Some y → (t ≡ s → ⊥) → (n : ℕ) → has_written x n ≡ true
        → (b : Bool) → has_shared y n ≡ b → has_shared y n ≡ false
    not_shared t y there other n is true shares =
        let none = locked t s y x there found other n shares in
        absurd (cc)
    not_shared t y there other n is false shares = shares

    with_it : PartOf (with_session B s x).sessions state.sessions
    with_it t y there = go (cases_eq t s)
      where
        go : (t ≡ s) ⊎ (t ≡ s → ⊥) → get state.sessions t ≡ Some y
        go (inl same) =
            ap (get state.sessions) same ∙ found
            ∙ sym (ap (get (insert B.sessions s x)) same ∙ get_inserted B.sessions s x) ∙ there
        go (inr other) = part t y (sym (get_other B.sessions s t x other) ∙ there)

    less : (n : ℕ) → peaks (with_session B s x) n ≤ peaks state n
    less n = part_less (with_session B s x).sessions state.sessions n with_it
