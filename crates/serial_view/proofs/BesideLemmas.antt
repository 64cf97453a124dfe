-- A session beside others that hold none of its names: where its commands pass among the sessions of a whole run, they
-- pass beside these too.
use Rattle.std.proofs.Common.{◌≡◌, inl, inr, ℕ, ◌+◌, ◌-◌, ◌/◌, ◌≤◌, ◌==◌, nat_le, Bool, true, false, cond, not, ◌&&◌, ◌||◌, List, [], ◌∷◌, Option, Some, None, refl, sym, ◌∙◌, ap, subst, arith}
use Rattle.std.specs.Prelude.{find, is_some, length, nat_lt}
use Rattle.std.specs.List.{list_any}
use Rattle.std.specs.Option.{option_map}
use Rattle.std.specs.FinMap.{get, entries}
use Rattle.std.proofs.Math.Nat.{le-max_left, le-max_right, max-le}
use Rattle.std.proofs.lemmas.Bool.{cases_eq, eq-eqb, ne_eqb, or_parts}
use Rattle.std.proofs.lemmas.Bool.Decides.{nat_tests}
use Rattle.ipl_base.specs.declared.fault.Refusal.{Refusal}
use Rattle.ipl_base.specs.declared.limits.TheConstants.{PAGE_LEN, PENDING_WEIGHT, SLOTS, UNIT_NAMES}
use Rattle.ipl_base.specs.Sizes.{size_in_page}
use Rattle.ipl_model.specs.State.{Map, Write, Session, State, Limits, last_write, written_names, has_written, has_shared, least_other}
use Rattle.ipl_model.specs.Peaks.{Peaks, with_peak, peaks_of, peaks, fill_with, overfills, overloads}
use Rattle.ipl_model.specs.FillLaws.{PageFits, UnitsFit}
use Rattle.ipl_model.specs.Refusals.{refuses_begin, refuses_get, refuses_share, refuses_put, refuses_del, Test, bad_session, bad_name, already_open, not_open, page_full}
use Rattle.ipl_model.specs.Operations.{new_session}
use Rattle.ipl_model.proofs.RulePeakLemmas.{le_trans, more_than}
use Rattle.ipl_model.proofs.FillLemmas.{fills_less}
use Rattle.ipl_model.proofs.WeightLemmas.{weights_less}
use Rattle.ipl_model.specs.declared.command.Command.{Command}
use Rattle.ipl_model.specs.declared.command.Command.TheVariants as command
use Rattle.ipl_model.specs.Step.{Stepped, step, refusal_of}
use Rattle.ipl_model.specs.declared.reply.Reply.TheVariants as reply
use Rattle.ipl_model.specs.Plain.{writes_in}
use Rattle.serial_view.proofs.MemberLemmas.{none_passes, inserted_less, with_write_less}
use Rattle.serial_view.proofs.SessionLemmas.{Sessions, insert_twice, with_session, written, shared_too, shared_in, is_unheld, same_some, get_inserted, get_other}
use Rattle.serial_view.proofs.TestLemmas.{worker, Fail, all_fail, none_holds, share_tests, write_tests, put_tests, del_tests}
use Rattle.serial_view.proofs.StepLemmas.{changed, said, Gives, does, step_accepted}

-- peaks that are no greater, over the same records, take no more of a page
peaks_less : (few more : Peaks) (m : Map) (page : ℕ) → ((n : ℕ) → few n ≤ more n)
    → fill_with few m page ≤ fill_with more m page
peaks_less few more m page less = fills_less few more m m page (λ n. max-le (le-max_left _ _)
    (omega (arith, less n, le-max_right (size_in_page (get m n)) (more n - 1))))

-- the one holds no name that the other wrote, and wrote none that the other shares
pub record Apart (x y : Session) : Type 0 where
  pub writes : (n : ℕ) → has_written x n ≡ true → (has_written y n || has_shared y n) ≡ false
  pub shares : (n : ℕ) → has_shared x n ≡ true → has_written y n ≡ false

-- a put among these is on the page
abbrev pub puts_on : List Write → ℕ → Bool
puts_on [] page = false
puts_on (w ∷ older) page = (is_some w.1 && (w.0 / SLOTS == page)) || puts_on older page

-- The session may stand beside those of this state: its number is free, it holds no name together with one of them, and
-- with it the names of no unit are too heavy, and no page that it put on is too full.
pub record Beside (B : State) (s : ℕ) (x : Session) : Type 0 where
  pub shut : get B.sessions s ≡ None
  pub apart : (t : ℕ) (y : Session) → get B.sessions t ≡ Some y → Apart x y
  pub few : UnitsFit (with_session B s x)
  pub room : (page : ℕ) → puts_on x.writes page ≡ true → PageFits (with_session B s x) page

-- ---- what a command adds

-- a session goes on to hold what it holds
written_on : (c : Command) (x : Session) (n : ℕ) → has_written x n ≡ true → has_written (changed c x) n ≡ true
written_on (command.Share s k) x n e = go (is_unheld x k)
  where
    go : (b : Bool) → has_written (cond b (shared_too x k) x) n ≡ true
    go true = e
    go false = e
written_on (command.Put s k bytes) x n e = go (k == n)
  where
    go : (b : Bool) → is_some (cond b (Some (Some bytes)) (last_write x.writes n)) ≡ true
    go true = refl
    go false = e
written_on (command.Del s k) x n e = go (k == n)
  where
    go : (b : Bool) → is_some (cond b (Some None) (last_write x.writes n)) ≡ true
    go true = refl
    go false = e
written_on other x n e = e

shared_on : (c : Command) (x : Session) (n : ℕ) → has_shared x n ≡ true → has_shared (changed c x) n ≡ true
shared_on (command.Share s k) x n e = go (is_unheld x k)
  where
    or_true : (a : Bool) → (a || true) ≡ true
    or_true true = refl
    or_true false = refl

    go : (b : Bool) → has_shared (cond b (shared_too x k) x) n ≡ true
    go true = ap (λ (b : Bool). (k == n) || b) e ∙ or_true (k == n)
    go false = e
shared_on other x n e = e

put_on : (c : Command) (x : Session) (page : ℕ) → puts_on x.writes page ≡ true
    → puts_on (changed c x).writes page ≡ true
put_on (command.Share s k) x page e = go (is_unheld x k)
  where
    go : (b : Bool) → puts_on (cond b (shared_too x k) x).writes page ≡ true
    go true = e
    go false = e
put_on (command.Put s k bytes) x page e = ap (λ (b : Bool). (k / SLOTS == page) || b) e ∙ or_true (k / SLOTS == page)
  where
    or_true : (a : Bool) → (a || true) ≡ true
    or_true true = refl
    or_true false = refl
put_on other x page e = e

-- what its writes leave is no less after it
peaked_on : (c : Command) (x : Session) (n : ℕ) → peaks_of x.writes n ≤ peaks_of (changed c x).writes n
peaked_on (command.Share s k) x n = go (is_unheld x k)
  where
    go : (b : Bool) → peaks_of x.writes n ≤ peaks_of (cond b (shared_too x k) x).writes n
    go true = omega arith
    go false = omega arith
peaked_on (command.Put s k bytes) x n = more_than (k, Some bytes) x.writes n
peaked_on (command.Del s k) x n = more_than (k, None) x.writes n
peaked_on other x n = omega arith

-- a state whose peaks are no greater has the room that the other has, in its units and, over the same records, in pages
pub fewer_fit : (state after : State) → ((n : ℕ) → peaks after n ≤ peaks state n) → UnitsFit state → UnitsFit after
fewer_fit state after less fits unit = le_trans (weights_less (peaks after) (peaks state) unit less) (fits unit)

pub page_fits : (state after : State) → after.map ≡ state.map → ((n : ℕ) → peaks after n ≤ peaks state n) → (page : ℕ)
    → PageFits state page → PageFits after page
page_fits state after same less page fits =
    le_trans (subst (λ (m : Map). fill_with (peaks after) m page ≤ fill_with (peaks state) state.map page) (sym same)
    (peaks_less (peaks after) (peaks state) state.map page less)) fits

-- so it could stand there before the command too
pub beside_before : (B : State) (s : ℕ) (c : Command) (x : Session) → Beside B s (changed c x) → Beside B s x
beside_before B s c x free =
    let less : (n : ℕ) → peaks (with_session B s x) n ≤ peaks (with_session B s (changed c x)) n =
    λ n. inserted_less B.sessions s x (changed c x) n (peaked_on c x n) in
    record {
      shut = free.shut;
      apart = λ t y found. record {
        writes = λ n e. (free.apart t y found).writes n (written_on c x n e);
        shares = λ n e. (free.apart t y found).shares n (shared_on c x n e);
      };
      few = fewer_fit (with_session B s (changed c x)) (with_session B s x) less free.few;
      room = λ page put. page_fits (with_session B s (changed c x)) (with_session B s x) refl less page
          (free.room page (put_on c x page put));
    }

-- ---- tests, beside the others

least_is : (P : ℕ × Session → Bool) (all : List (ℕ × Session))
    → is_some (option_map (λ (e : ℕ × Session). e.0) (find P all)) ≡ list_any P all
least_is P [] = refl
least_is P (e ∷ all) = go (P e) (least_is P all)
  where
    go : (b : Bool) → is_some (option_map (λ (e : ℕ × Session). e.0) (find P all)) ≡ list_any P all
        → is_some (option_map (λ (e : ℕ × Session). e.0) (cond b (Some e) (find P all))) ≡ (b || list_any P all)
    go true rest = refl
    go false rest = rest

-- a begin passes where the session isn't open
pub begins_beside : (limits : Limits) (state B : State) (s : ℕ) → refuses_begin limits state s ≡ None
    → get B.sessions s ≡ None → refuses_begin limits B s ≡ None
begins_beside limits state B s passes shut =
    let f = all_fail (bad_session limits s ∷ already_open state s ∷ []) passes in
    none_holds (bad_session limits s ∷ already_open B s ∷ []) (f.0, (ap is_some shut, tt))

module _ (limits : Limits) (state B : State) (s : ℕ) (x : Session) (found : get state.sessions s ≡ Some x) where
  abbrev st : State
  st = with_session B s x

  same_get : get st.sessions s ≡ get state.sessions s
  same_get = get_inserted B.sessions s x ∙ sym found

  no_holder : (test : Session → Bool) → ((t : ℕ) (y : Session) → get B.sessions t ≡ Some y → test y ≡ false)
      → is_some (least_other test st s) ≡ false
  no_holder test none =
      least_is (λ (e : ℕ × Session). not (e.0 == s) && test e.1) (entries st.sessions)
      ∙ none_passes (λ (e : ℕ × Session). not (e.0 == s) && test e.1) st.sessions (λ t y there.
      elim (cases_eq t s) [
        | inl same ↦ ap (λ (b : Bool). not b && test y) (eq-eqb t s same)
        | inr other ↦
            ap (λ (b : Bool). not b && test y) (ne_eqb t s other)
            ∙ none t y (sym (get_other B.sessions s t x other) ∙ there)
      ])

  -- a test of the session answers the same
  same_test : (test : Option Session → Bool) → test (get state.sessions s) ≡ false → test (get st.sessions s) ≡ false
  same_test test e = ap test same_get ∙ e

  abbrev closed : Option Session → Bool
  closed o = not (is_some o)

  abbrev is_new : ℕ → Option Session → Bool
  is_new n o = not (is_some (last_write (writes_in o) n))

  abbrev too_many_shares : ℕ → Option Session → Bool
  too_many_shares n o =
      (is_new n o && not (list_any (λ k. k == n) (shared_in o))) && nat_le 256 (length (shared_in o))

  abbrev too_many_writes : ℕ → Option Session → Bool
  too_many_writes n o = is_new n o && nat_le 256 (length (written_names (writes_in o)))

  gets_beside : (n : ℕ) → refuses_get limits state s n ≡ None → refuses_get limits st s n ≡ None
  gets_beside n passes =
      let f = all_fail (bad_session limits s ∷ bad_name limits n ∷ not_open state s ∷ []) passes in
      none_holds (bad_session limits s ∷ bad_name limits n ∷ not_open st s ∷ [])
      (f.0, (f.1.0, (same_test closed f.1.1.0, tt)))

  -- what it shares then none of the others wrote
  shared_apart : (n : ℕ) → Beside B s (changed (command.Share s n) x) → (t : ℕ) (y : Session)
      → get B.sessions t ≡ Some y → has_written y n ≡ false
  shared_apart n free t y there = go (is_unheld x n) refl (free.apart t y there)
    where
      held : (w h : Bool) → has_written x n ≡ w → has_shared x n ≡ h → (not w && not h) ≡ false → Apart x y
          → has_written y n ≡ false
      held true h wrote shares e apart = (or_parts _ _ (apart.writes n wrote)).0
      held false true wrote shares e apart = apart.shares n shares
      held false false wrote shares e apart = absurd (cc)

      go : (b : Bool) → is_unheld x n ≡ b → Apart (cond b (shared_too x n) x) y → has_written y n ≡ false
      go true is apart = apart.shares n (ap (λ (b : Bool). b || has_shared x n) (eq-eqb n n refl))
      go false is apart = held (has_written x n) (has_shared x n) refl refl is apart

  shares_beside : (n : ℕ) → Beside B s (changed (command.Share s n) x) → refuses_share limits state s n ≡ None
      → refuses_share limits st s n ≡ None
  shares_beside n free passes =
      let f = all_fail (share_tests limits state s n) passes in
      none_holds (share_tests limits st s n) (
        f.0,
        (
          f.1.0,
          (
            same_test closed f.1.1.0,
            (
              no_holder (λ session. has_written session n) (shared_apart n free),
              (same_test (too_many_shares n) f.1.1.1.1.0, tt),
            ),
          ),
        ),
      )

  module _ (w : Write) (free : Beside B s (written x w)) where
    -- with the write the peaks are no more than those of the session behind it
    no_more : (n : ℕ) → with_peak (peaks st) w.0 (1 + size_in_page w.1) n ≤ peaks (with_session B s (written x w)) n
    no_more n = with_write_less B.sessions s x w n

    -- so the names of its unit aren't too heavy
    light : overloads (peaks st) w.0 (1 + size_in_page w.1) ≡ false
    light = not_above _ (le_trans (weights_less _ _ (w.0 / UNIT_NAMES) no_more) (free.few (w.0 / UNIT_NAMES)))
      where
        not_above : (weight : ℕ) → weight ≤ PENDING_WEIGHT → nat_lt PENDING_WEIGHT weight ≡ false
        not_above weight low = grind (arith, nat_tests)

    its : has_written (written x w) w.0 ≡ true
    its = ap (λ (b : Bool). is_some (cond b (Some w.1) (last_write x.writes w.0))) (eq-eqb w.0 w.0 refl)

    abbrev holds_it : Session → Bool
    holds_it session = has_written session w.0 || has_shared session w.0

    -- the tests of a write
    write_passes : (more fewer : List Test) → Fail (write_tests state s w more) → Fail fewer
        → Fail (write_tests st s w fewer)
    write_passes more fewer f rest = (
      same_test closed f.0,
      (
        no_holder holds_it (λ t y there. (free.apart t y there).writes w.0 its),
        (same_test (too_many_writes w.0) f.1.1.0, (light, rest)),
      ),
    )

  -- and a put's page isn't too full
  roomy : (n : ℕ) (bytes : List ℕ) → Beside B s (written x (n, Some bytes)) → overfills st n bytes ≡ false
  roomy n bytes free =
      let put : puts_on ((n, Some bytes) ∷ x.writes) (n / SLOTS) ≡ true =
      ap (λ (b : Bool). b || puts_on x.writes (n / SLOTS)) (eq-eqb (n / SLOTS) (n / SLOTS) refl) in
      let less = peaks_less _ _ B.map (n / SLOTS) (no_more (n, Some bytes) free) in
      not_above _ (le_trans less (free.room (n / SLOTS) put))
    where
      not_above : (size : ℕ) → size ≤ PAGE_LEN → nat_lt PAGE_LEN size ≡ false
      not_above size low = grind (arith, nat_tests)

  puts_beside : (n : ℕ) (bytes : List ℕ) → Beside B s (written x (n, Some bytes))
      → refuses_put limits state s n bytes ≡ None → refuses_put limits st s n bytes ≡ None
  puts_beside n bytes free passes =
      let f = all_fail (put_tests limits state s n bytes) passes in
      none_holds (put_tests limits st s n bytes) (
        f.0,
        (
          f.1.0,
          (
            f.1.1.0,
            write_passes (n, Some bytes) free (page_full state n bytes ∷ []) (page_full st n bytes ∷ [])
                f.1.1.1 (roomy n bytes free, tt),
          ),
        ),
      )

  dels_beside : (n : ℕ) → Beside B s (written x (n, None)) → refuses_del limits state s n ≡ None
      → refuses_del limits st s n ≡ None
  dels_beside n free passes =
      let f = all_fail (del_tests limits state s n) passes in
      none_holds (del_tests limits st s n) (f.0, (f.1.0, write_passes (n, None) free [] [] f.1.1 tt))

  -- what passes for the session passes for another number that is the same
  at_session : (refuses : State → ℕ → Option Refusal) (t : ℕ) → Some t ≡ Some s
      → (refuses state s ≡ None → refuses st s ≡ None) → refuses state t ≡ None → refuses st t ≡ None
  at_session refuses t e here passes =
      let same = same_some t s e in
      subst (λ (k : ℕ). refuses st k ≡ None) (sym same)
      (here (subst (λ (k : ℕ). refuses state k ≡ None) same passes))

  -- what passes in the whole run passes beside the others
  pub passes_beside : (c : Command) → worker c ≡ Some s → Beside B s (changed c x) → refusal_of limits state c ≡ None
      → refusal_of limits st c ≡ None
  passes_beside (command.Get t n) e free passes =
      at_session (λ st k. refuses_get limits st k n) t e (gets_beside n) passes
  passes_beside (command.Share t n) e free passes =
      at_session (λ st k. refuses_share limits st k n) t e (shares_beside n free) passes
  passes_beside (command.Put t n bytes) e free passes =
      at_session (λ st k. refuses_put limits st k n bytes) t e (puts_beside n bytes free) passes
  passes_beside (command.Del t n) e free passes =
      at_session (λ st k. refuses_del limits st k n) t e (dels_beside n free) passes
  passes_beside other e free passes = absurd (cc)

-- ---- steps, beside the others

-- a begin
pub step_begin_beside : (limits : Limits) (state B : State) (s : ℕ) → refusal_of limits state (command.Begin s) ≡ None
    → get B.sessions s ≡ None
    → Gives (step limits B (command.Begin s)) (with_session B s new_session) (reply.Ok ∷ [])
step_begin_beside limits state B s passes shut =
    step_accepted limits B (command.Begin s) (begins_beside limits state B s passes shut)

-- a command of the session
pub step_beside : (limits : Limits) (state B : State) (s : ℕ) (x : Session) → get state.sessions s ≡ Some x
    → (c : Command) → worker c ≡ Some s → Beside B s (changed c x) → refusal_of limits state c ≡ None
    → Gives (step limits (with_session B s x) c) (with_session B s (changed c x)) (said c x B.map)
step_beside limits state B s x found c own free passes =
    step_accepted limits (with_session B s x) c (passes_beside limits state B s x found c own free passes)
    ∙ does (with_session B s x) s x (get_inserted B.sessions s x) c own
    ∙ ap {B = Stepped} (λ (f : Sessions). (record B { sessions = f }, said c x B.map))
    (insert_twice B.sessions s x (changed c x))
