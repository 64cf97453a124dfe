-- States whose sessions have the same names.
use Rattle.std.proofs.Common.{◌≡◌, ℕ, ◌+◌, ◌*◌, ◌/◌, ◌≤◌, ◌==◌, max, nat_lt, Bool, true, false, T, not, ◌&&◌, ◌||◌, nat_le, cond, List, [], ◌∷◌, length, Option, Some, None, is_some, refl, sym, ◌∙◌, ap, subst, arith}
use Rattle.std.specs.Prelude.{find}
use Rattle.std.specs.Cmp.{nat_cmp_total}
use Rattle.std.specs.FinMap.{get, entries, get-entries, entries_sorted, nat_cmp-IsAntisymmetric}
use Rattle.std.specs.FinMap.Entries as es
use Rattle.std.specs.Option.{option_map, option_map_or}
use Rattle.std.specs.Ordering.{nat_cmp, eq_by_cmp, is_lt}
use Rattle.std.proofs.lemmas.Bool.Decides.{nat_tests}
use Rattle.ipl_base.specs.declared.fault.Refusal.TheVariants.{AlreadyOpen, NotOpen, WritesFull, SharesFull, PendingFull}
use Rattle.ipl_model.specs.State.{State, Session, Write, is_open_session, last_write, written_names, writes_of, shared_of}
use Rattle.ipl_base.specs.Sizes.{size_in_page}
use Rattle.ipl_base.specs.declared.limits.TheConstants.{PENDING_WEIGHT, UNIT_NAMES}
use Rattle.ipl_model.specs.Peaks.{Peaks, with_peak, peaks_of, peaks, overloads}
use Rattle.ipl_model.proofs.RulePeakLemmas.{own_most, by_number}
use Rattle.ipl_model.proofs.WeightLemmas.{weights_same}
use Rattle.record_locks.proofs.PeakLemmas.{one_of_all, all_at_most}
use Rattle.ipl_model.specs.Refusals.{first_of, conflict, is_new_write, is_new_share}
use Rattle.record_locks.specs.Held.{is_among, peaks_in}
use Rattle.record_locks.specs.Names.{names_of, SameNames, TestsAlike, SessionsRefuseAsStates, PeaksAreTheStates}
use Rattle.record_locks.specs.Standing.{state_of}

abbrev Names : Type 0
Names = List ℕ × List ℕ

-- ---- the names of writes

-- a name is written where it is among the names of the writes
pub among_written : (ws : List Write) (n : ℕ) → is_some (last_write ws n) ≡ is_among n (written_names ws)
among_written [] n = refl
among_written (w ∷ ws) n = by_tests (w.0 == n) (is_some (last_write ws w.0)) refl (among_written ws n) here
  where
    here : (w.0 == n) ≡ true → is_some (last_write ws w.0) ≡ is_some (last_write ws n)
    here same =
        let is : w.0 ≡ n = grind (arith, nat_tests) in
        ap (λ (k : ℕ). is_some (last_write ws k)) is

    by_tests : (b t : Bool) → (w.0 == n) ≡ b → is_some (last_write ws n) ≡ is_among n (written_names ws) → ((w.0 == n) ≡ true → t ≡ is_some (last_write ws n))
        → is_some (cond b (Some w.1) (last_write ws n)) ≡ is_among n (cond t (written_names ws) (w.0 ∷ written_names ws))
    by_tests true true is rest at = at is ∙ rest
    by_tests true false is rest at = sym (ap (λ (c : Bool). c || is_among n (written_names ws)) is)
    by_tests false true is rest at = rest
    by_tests false false is rest at = rest ∙ sym (ap (λ (c : Bool). c || is_among n (written_names ws)) is)

-- ---- sessions as names

mapped : List (ℕ × Session) → List (ℕ × Names)
mapped [] = []
mapped (e ∷ rest) = (e.0, names_of e.1) ∷ mapped rest

find-mapped : (q : ℕ) (rest : List (ℕ × Session)) → es.find nat_cmp q (mapped rest) ≡ option_map names_of (es.find nat_cmp q rest)
unfolding mapped
find-mapped q [] = refl
find-mapped q (e ∷ rest) = by_head (eq_by_cmp nat_cmp q e.0) (find-mapped q rest)
  where
    by_head : (b : Bool) → es.find nat_cmp q (mapped rest) ≡ option_map names_of (es.find nat_cmp q rest)
        → cond b (Some (names_of e.1)) (es.find nat_cmp q (mapped rest)) ≡ option_map names_of (cond b (Some e.1) (es.find nat_cmp q rest))
    by_head true later = refl
    by_head false later = later

below-mapped : (k : ℕ) (rest : List (ℕ × Session)) → es.below_all nat_cmp k (mapped rest) ≡ es.below_all nat_cmp k rest
unfolding mapped
below-mapped k [] = refl
below-mapped k (e ∷ rest) = ap (λ (b : Bool). is_lt (nat_cmp k e.0) && b) (below-mapped k rest)

sorted-mapped : (rest : List (ℕ × Session)) → es.is_sorted nat_cmp (mapped rest) ≡ es.is_sorted nat_cmp rest
unfolding mapped
sorted-mapped [] = refl
sorted-mapped (e ∷ rest) = λ i. below-mapped e.0 rest i && sorted-mapped rest i

-- states with the same names have the same sessions, seen as names
same_mapped : (a b : State) → SameNames a b → mapped (entries a.sessions) ≡ mapped (entries b.sessions)
same_mapped a b same =
    es.same_entries nat_cmp nat_cmp_total nat_cmp-IsAntisymmetric (mapped (entries a.sessions)) (mapped (entries b.sessions))
    (subst T (sym (sorted-mapped (entries a.sessions))) (entries_sorted a.sessions)) (subst T (sym (sorted-mapped (entries b.sessions))) (entries_sorted b.sessions))
    (λ q. find-mapped q (entries a.sessions) ∙ ap (option_map names_of) (sym (get-entries a.sessions q)) ∙ same q ∙ ap (option_map names_of) (get-entries b.sessions q) ∙ sym (find-mapped q (entries b.sessions)))

-- ---- the least session that passes a test of names

least-mapped : (test : Session → Bool) (on_names : Names → Bool) → ((x : Session) → test x ≡ on_names (names_of x)) → (s : ℕ) (rest : List (ℕ × Session))
    → option_map (λ e. e.0) (find (λ e. not (e.0 == s) && test e.1) rest) ≡ option_map (λ e. e.0) (find (λ e. not (e.0 == s) && on_names e.1) (mapped rest))
unfolding mapped
least-mapped test on_names is s [] = refl
least-mapped test on_names is s (e ∷ rest) =
    ap (λ (b : Bool). option_map (λ x. x.0) (cond (not (e.0 == s) && b) (Some e) (find (λ x. not (x.0 == s) && test x.1) rest))) (is e.1)
    ∙ by_head (not (e.0 == s) && on_names (names_of e.1)) (least-mapped test on_names is s rest)
  where
    by_head : (b : Bool) → option_map (λ x. x.0) (find (λ x. not (x.0 == s) && test x.1) rest) ≡ option_map (λ x. x.0) (find (λ x. not (x.0 == s) && on_names x.1) (mapped rest))
        → option_map (λ x. x.0) (cond b (Some e) (find (λ x. not (x.0 == s) && test x.1) rest)) ≡ option_map (λ x. x.0) (cond b (Some (e.0, names_of e.1)) (find (λ x. not (x.0 == s) && on_names x.1) (mapped rest)))
    by_head true later = refl
    by_head false later = later

-- ---- the tests

module _ (a b : State) (same : SameNames a b) where
  opens_alike : (s : ℕ) → is_open_session a s ≡ is_open_session b s
  opens_alike s = by_map (get a.sessions s) ∙ ap is_some (same s) ∙ sym (by_map (get b.sessions s))
    where
      by_map : (o : Option Session) → is_some o ≡ is_some (option_map names_of o)
      by_map None = refl
      by_map (Some x) = refl

  -- the names that a session wrote, and those that it shares
  writes_alike : (s : ℕ) → written_names (writes_of a s) ≡ written_names (writes_of b s)
  writes_alike s = by_map (get a.sessions s) ∙ ap (λ (o : Option Names). option_map_or (λ p. p.0) o []) (same s) ∙ sym (by_map (get b.sessions s))
    where
      by_map : (o : Option Session) → written_names (option_map_or (λ x. x.writes) o []) ≡ option_map_or (λ p. p.0) (option_map names_of o) []
      by_map None = refl
      by_map (Some x) = refl

  shares_alike : (s : ℕ) → shared_of a s ≡ shared_of b s
  shares_alike s = by_map (get a.sessions s) ∙ ap (λ (o : Option Names). option_map_or (λ p. p.1) o []) (same s) ∙ sym (by_map (get b.sessions s))
    where
      by_map : (o : Option Session) → option_map_or (λ x. x.shared) o [] ≡ option_map_or (λ p. p.1) (option_map names_of o) []
      by_map None = refl
      by_map (Some x) = refl

  pub new_writes_alike : (s n : ℕ) → is_new_write a s n ≡ is_new_write b s n
  new_writes_alike s n = ap not (among_written (writes_of a s) n ∙ ap (is_among n) (writes_alike s) ∙ sym (among_written (writes_of b s) n))

  pub new_shares_alike : (s n : ℕ) → is_new_share a s n ≡ is_new_share b s n
  new_shares_alike s n = λ i. new_writes_alike s n i && not (is_among n (shares_alike s i))

  pub alike : (s n : ℕ) → TestsAlike a b s n
  alike s n = record {
    opens = opens_alike s;
    shares = least-mapped (λ x. is_some (last_write x.writes n)) (λ p. is_among n p.0) (λ x. among_written x.writes n) s (entries a.sessions)
        ∙ ap (λ (es : List (ℕ × Names)). option_map (λ e. e.0) (find (λ e. not (e.0 == s) && is_among n e.1.0) es)) (same_mapped a b same)
        ∙ sym (least-mapped (λ x. is_some (last_write x.writes n)) (λ p. is_among n p.0) (λ x. among_written x.writes n) s (entries b.sessions));
    writes = least-mapped (λ x. is_some (last_write x.writes n) || is_among n x.shared) (λ p. is_among n p.0 || is_among n p.1) (λ x. ap (λ (c : Bool). c || is_among n x.shared) (among_written x.writes n)) s (entries a.sessions)
        ∙ ap (λ (es : List (ℕ × Names)). option_map (λ e. e.0) (find (λ e. not (e.0 == s) && (is_among n e.1.0 || is_among n e.1.1)) es)) (same_mapped a b same)
        ∙ sym (least-mapped (λ x. is_some (last_write x.writes n) || is_among n x.shared) (λ p. is_among n p.0 || is_among n p.1) (λ x. ap (λ (c : Bool). c || is_among n x.shared) (among_written x.writes n)) s (entries b.sessions));
    full_writes = λ i. (new_writes_alike s n i && nat_le 256 (length (writes_alike s i)), WritesFull);
    full_shares = λ i. (new_shares_alike s n i && nat_le 256 (length (shares_alike s i)), SharesFull);
  }

-- ---- peaks

pub peaks_are : PeaksAreTheStates
peaks_are slots state same n =
    let less = all_at_most slots n (peaks state n) (λ s. omega (arith, same s n, own_most state s n)) in
    let more = by_number state.sessions n (peaks_in slots n) (λ q v is. at_most q v is) in
    omega (arith, less, more)
  where
    at_most : (q : ℕ) (v : Session) → get state.sessions q ≡ Some v → peaks_of v.writes n ≤ peaks_in slots n
    at_most q v is =
        let here : peaks_of (writes_of state q) n ≡ peaks_of v.writes n = ap (λ (o : Option Session). peaks_of (option_map_or (λ x. x.writes) o []) n) is in
        omega (arith, here, same q n, one_of_all slots q n)

overloads_alike : (a b : Peaks) → ((n : ℕ) → a n ≡ b n) → (n m : ℕ) → overloads a n m ≡ overloads b n m
overloads_alike a b same n m = ap (λ (w : ℕ). nat_lt PENDING_WEIGHT w) (weights_same (with_peak a n m) (with_peak b n m) (n / UNIT_NAMES) (λ i low. by_name (n == UNIT_NAMES * (n / UNIT_NAMES) + i) (same (UNIT_NAMES * (n / UNIT_NAMES) + i))))
  where
    by_name : (t : Bool) {x y : ℕ} → x ≡ y → cond t (max m x) x ≡ cond t (max m y) y
    by_name t is = ap (λ (k : ℕ). cond t (max m k) k) is

-- sessions that have the names and peaks of a state refuse as that state does
pub refuse_as : SessionsRefuseAsStates
refuse_as slots state same peaked s n =
    let tests = alike (state_of slots) state same s n in
    record {
      begins = λ i. first_of ((tests.opens i, AlreadyOpen) ∷ []);
      shares = λ i. first_of ((not (tests.opens i), NotOpen) ∷ conflict (tests.shares i) ∷ tests.full_shares i ∷ []);
      writes = λ change. λ i. first_of ((not (tests.opens i), NotOpen) ∷ conflict (tests.writes i) ∷ tests.full_writes i
          ∷ (overloads_alike (peaks_in slots) (peaks state) (peaks_are slots state peaked) n (1 + size_in_page change) i, PendingFull (n / UNIT_NAMES)) ∷ []);
      ends = λ i. first_of ((not (tests.opens i), NotOpen) ∷ []);
    }
