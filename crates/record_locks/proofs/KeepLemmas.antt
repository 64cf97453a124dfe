-- The calls keep the names of a state.
use Rattle.std.proofs.Common.{◌≡◌, inl, inr, ℕ, zero, suc, ◌+◌, ◌<◌, ◌==◌, max, Bool, true, false, not, ◌&&◌, cond, List, [], ◌∷◌, ◌++◌, map, reverse, length, set, get_or, replicate, Option, Some, None, is_some, refl, sym, ◌∙◌, ap, arith}
use Rattle.std.specs.Cmp.{nat_cmp_total}
use Rattle.std.specs.FinMap.{get, insert, get-insert, get-remove, get-empty}
use Rattle.std.specs.Option.{option_map, option_map_or}
use Rattle.std.specs.Ordering.{nat_cmp, eq_by_cmp}
use Rattle.std.proofs.lemmas.Bool.{cases_eq}
use Rattle.std.proofs.lemmas.Bool.Decides.{nat_tests}
use Rattle.std.proofs.lemmas.List.{reverse-append}
use Rattle.ipl_model.specs.State.{State, Session, Write, last_write, written_names}
use Rattle.ipl_model.specs.Refusals.{is_new_share}
use Rattle.ipl_model.specs.Operations as rules
use Rattle.record_locks.specs.Held.{Held, SessionSlots, held_at, is_among, raised, slot_peaks, with_written, with_shared, new_held, after_share, after_write, after_end}
use Rattle.record_locks.specs.Standing.{state_of, slot_of, session_of, write_of}
use Rattle.record_locks.specs.Names.{names_of, SameNames, SamePeaks, KeepsNames, KeepsNamePeaks, CallsKeepNames, CallsKeepPeaks}
use Rattle.record_locks.specs.Locks.{IsSized}
use Rattle.ipl_base.specs.Sizes.{size_in_page}
use Rattle.ipl_model.specs.Peaks.{peaks_of}
use Rattle.record_locks.proofs.PeakLemmas.{written_peaks, sized_at}
use Rattle.std.specs.List.{All}
use Rattle.record_locks.proofs.NameLemmas.{among_reversed}
use Rattle.ipl_model.proofs.RuleSlotLemmas.{get_or-set}
use Rattle.record_locks.proofs.StandingLemmas.{session_at, new_share_at}
use Rattle.record_locks.proofs.SameLemmas.{among_written, new_shares_alike}

abbrev Names : Type 0
Names = List ℕ × List ℕ

-- a state that differs in one session, and slots that differ there likewise
keep : (slots : SessionSlots) (state later : State) (s : ℕ) (o : Option Held) (x : Option Session) → s < length slots → SameNames (state_of slots) state
    → ((q : ℕ) → get later.sessions q ≡ cond (eq_by_cmp nat_cmp q s) x (get state.sessions q)) → option_map names_of (slot_of o) ≡ option_map names_of x
    → SameNames (state_of (set slots s o)) later
keep slots state later s o x within same gets names q =
    ap (option_map names_of) (session_at (set slots s o) q ∙ ap slot_of (get_or-set slots s o q within))
    ∙ by_key (eq_by_cmp nat_cmp q s) ∙ sym (ap (option_map names_of) (gets q))
  where
    by_key : (b : Bool) → option_map names_of (slot_of (cond b o (get_or slots q None))) ≡ option_map names_of (cond b x (get state.sessions q))
    by_key true = names
    by_key false = ap (option_map names_of) (sym (session_at slots q)) ∙ same q

-- what stands at a key, and what stands elsewhere
itself : (state : State) (s q : ℕ) → get state.sessions q ≡ cond (eq_by_cmp nat_cmp q s) (get state.sessions s) (get state.sessions q)
itself state s q = elim (cases_eq q s) [
  | inl same ↦
      let yes : eq_by_cmp nat_cmp q s ≡ true = grind (arith, nat_tests) in
      ap (λ (k : ℕ). get state.sessions k) same ∙ sym (ap (λ (b : Bool). cond b (get state.sessions s) (get state.sessions q)) yes)
  | inr other ↦
      let no : eq_by_cmp nat_cmp q s ≡ false = grind (arith, nat_tests) in
      sym (ap (λ (b : Bool). cond b (get state.sessions s) (get state.sessions q)) no)
]

-- ---- a share

shared_more : ℕ → Session → Session
shared_more n x = record x { shared = n ∷ x.shared }

after_shared : (state : State) (s n q : ℕ) → get (rules.after_share state s n).sessions q ≡ cond (eq_by_cmp nat_cmp q s) (option_map (λ x. cond (is_new_share state s n) (shared_more n x) x) (get state.sessions s)) (get state.sessions q)
unfolding shared_more
after_shared state s n q = by_test (is_new_share state s n) (get state.sessions s) refl
  where
    by_test : (t : Bool) (y : Option Session) → get state.sessions s ≡ y
        → get (cond t (option_map_or (λ session. record state { sessions = insert state.sessions s (record session { shared = n ∷ session.shared }) }) y state) state).sessions q
        ≡ cond (eq_by_cmp nat_cmp q s) (option_map (λ x. cond t (record x { shared = n ∷ x.shared }) x) y) (get state.sessions q)
    by_test true None is = itself state s q ∙ ap (λ (o : Option Session). cond (eq_by_cmp nat_cmp q s) o (get state.sessions q)) is
    by_test true (Some x) is = get-insert nat_cmp_total state.sessions s (record x { shared = n ∷ x.shared }) q
    by_test false None is = itself state s q ∙ ap (λ (o : Option Session). cond (eq_by_cmp nat_cmp q s) o (get state.sessions q)) is
    by_test false (Some x) is = itself state s q ∙ ap (λ (o : Option Session). cond (eq_by_cmp nat_cmp q s) o (get state.sessions q)) is

share_names : (n : ℕ) (h : Held) (x : Session) (t : Bool) → names_of (session_of h) ≡ names_of x → (not (is_among n h.written) && not (is_among n h.shared)) ≡ t
    → names_of (session_of (with_shared n h)) ≡ names_of (cond t (shared_more n x) x)
unfolding shared_more
share_names n h x t names is = by_tests (is_among n h.written) (is_among n h.shared) t is
  where
    by_tests : (a b t : Bool) → (not a && not b) ≡ t → names_of (session_of (cond a h (cond b h (record h { shared = h.shared ++ n ∷ [] })))) ≡ names_of (cond t (record x { shared = n ∷ x.shared }) x)
    by_tests true b true known = absurd (cc known)
    by_tests true b false known = names
    by_tests false true true known = absurd (cc known)
    by_tests false true false known = names
    by_tests false false true known =
        ap (λ (ns : List ℕ). (written_names (map write_of (reverse h.written)), ns)) (reverse-append h.shared (n ∷ []))
        ∙ (λ i. ((names i).0, n ∷ (names i).1))
    by_tests false false false known = absurd (cc known)

-- ---- a write

abbrev written_more : Write → Session → Session
written_more w x = record x { writes = w ∷ x.writes }

after_written : (state : State) (s q : ℕ) (w : Write) → get (rules.after_write state s w).sessions q ≡ cond (eq_by_cmp nat_cmp q s) (option_map (written_more w) (get state.sessions s)) (get state.sessions q)
after_written state s q w = by_session (get state.sessions s) refl
  where
    by_session : (y : Option Session) → get state.sessions s ≡ y
        → get (option_map_or (λ session. record state { sessions = insert state.sessions s (record session { writes = w ∷ session.writes }) }) y state).sessions q
        ≡ cond (eq_by_cmp nat_cmp q s) (option_map (written_more w) y) (get state.sessions q)
    by_session None is = itself state s q ∙ ap (λ (o : Option Session). cond (eq_by_cmp nat_cmp q s) o (get state.sessions q)) is
    by_session (Some x) is = get-insert nat_cmp_total state.sessions s (record x { writes = w ∷ x.writes }) q

write_names : (n size : ℕ) (change : Option (List ℕ)) (h : Held) (x : Session) → names_of (session_of h) ≡ names_of x
    → names_of (session_of (with_written n size h)) ≡ names_of (record x { writes = (n, change) ∷ x.writes })
write_names n size change h x names = by_test (is_among n h.written) refl
  where
    was : List Write
    was = map write_of (reverse h.written)

    among : is_some (last_write x.writes n) ≡ is_among n h.written
    among = among_written x.writes n ∙ ap (λ (p : Names). is_among n p.0) (sym names) ∙ sym (among_written (map write_of (reverse h.written)) n) ∙ among_reversed h.written n

    by_test : (t : Bool) → is_among n h.written ≡ t
        → names_of (session_of (cond t (record h { sizes = raised h.written h.sizes n size }) (record h { written = h.written ++ n ∷ []; sizes = h.sizes ++ size ∷ [] }))) ≡ (cond (is_some (last_write x.writes n)) (written_names x.writes) (n ∷ written_names x.writes), x.shared)
    by_test true is =
        names ∙ sym (ap (λ (b : Bool). (cond b (written_names x.writes) (n ∷ written_names x.writes), x.shared)) (among ∙ is))
    by_test false is =
        ap (λ (ns : List ℕ). (written_names (map write_of ns), reverse h.shared)) (reverse-append h.written (n ∷ []))
        ∙ ap (λ (b : Bool). (cond b (written_names (map write_of (reverse h.written))) (n ∷ written_names (map write_of (reverse h.written))), reverse h.shared)) (among_reversed h.written n ∙ is)
        ∙ (λ i. (n ∷ (names i).0, (names i).1))
        ∙ sym (ap (λ (b : Bool). (cond b (written_names x.writes) (n ∷ written_names x.writes), x.shared)) (among ∙ is))

-- ---- all calls

none_of : (k q : ℕ) → get_or (replicate {A = Option Held} k None) q None ≡ None
none_of zero q = refl
none_of (suc k) zero = refl
none_of (suc k) (suc q) = none_of k q

module _ (slots : SessionSlots) (state : State) (s : ℕ) (within : s < length slots) (same : SameNames (state_of slots) state) where
  -- the session in the slot, and the state's
  here : option_map names_of (slot_of (held_at slots s)) ≡ option_map names_of (get state.sessions s)
  here = ap (option_map names_of) (sym (session_at slots s)) ∙ same s

  shares_keep : (n : ℕ) → SameNames (state_of (after_share slots s n)) (rules.after_share state s n)
  shares_keep n =
      keep slots state (rules.after_share state s n) s (option_map (with_shared n) (held_at slots s)) (option_map (λ x. cond (is_new_share state s n) (shared_more n x) x) (get state.sessions s)) within same
      (after_shared state s n) (by_slot (held_at slots s) (get state.sessions s) refl here)
    where
      test : (h : Held) → held_at slots s ≡ Some h → (not (is_among n h.written) && not (is_among n h.shared)) ≡ is_new_share state s n
      test h is =
          sym (ap (λ (o : Option Held). not (is_among n (option_map_or (λ x. x.written) o [])) && not (is_among n (option_map_or (λ x. x.shared) o []))) is)
          ∙ sym (new_share_at slots s n) ∙ new_shares_alike (state_of slots) state same s n

      by_slot : (o : Option Held) (y : Option Session) → held_at slots s ≡ o → option_map names_of (slot_of o) ≡ option_map names_of y
          → option_map names_of (slot_of (option_map (with_shared n) o)) ≡ option_map names_of (option_map (λ x. cond (is_new_share state s n) (shared_more n x) x) y)
      by_slot None None is names = refl
      by_slot None (Some x) is names = absurd (cc names)
      by_slot (Some h) None is names = absurd (cc names)
      by_slot (Some h) (Some x) is names =
          let alike_names : names_of (session_of h) ≡ names_of x = cc in
          ap Some (share_names n h x (is_new_share state s n) alike_names (test h is))

  writes_keep : (n size : ℕ) (change : Option (List ℕ)) → SameNames (state_of (after_write slots s n size)) (rules.after_write state s (n, change))
  writes_keep n size change =
      keep slots state (rules.after_write state s (n, change)) s (option_map (with_written n size) (held_at slots s)) (option_map (written_more (n, change)) (get state.sessions s)) within same
      (λ q. after_written state s q (n, change)) (by_slot (held_at slots s) (get state.sessions s) here)
    where
      by_slot : (o : Option Held) (y : Option Session) → option_map names_of (slot_of o) ≡ option_map names_of y
          → option_map names_of (slot_of (option_map (with_written n size) o)) ≡ option_map names_of (option_map (written_more (n, change)) y)
      by_slot None None names = refl
      by_slot None (Some x) names = absurd (cc names)
      by_slot (Some h) None names = absurd (cc names)
      by_slot (Some h) (Some x) names =
          let alike_names : names_of (session_of h) ≡ names_of x = cc in
          ap Some (write_names n size change h x alike_names)

  keeps : KeepsNames slots state s
  keeps = record {
    begins = λ number. keep slots state (rules.after_begin state s) s (Some (new_held number)) (Some rules.new_session) within same (get-insert nat_cmp_total state.sessions s rules.new_session) refl;
    shares = shares_keep;
    writes = writes_keep;
    commits = keep slots state (rules.after_commit state s) s None None within same (get-remove nat_cmp_total state.sessions s) refl;
    aborts = keep slots state (rules.after_abort state s) s None None within same (get-remove nat_cmp_total state.sessions s) refl;
    restarts = λ q. ap (option_map names_of) (session_at (replicate (length slots) None) q ∙ ap slot_of (none_of (length slots) q) ∙ sym (get-empty nat_cmp q));
  }

pub keeps_names : CallsKeepNames
keeps_names slots state s within same = keeps slots state s within same

-- ---- peaks

abbrev peaks_in_state : Option Session → ℕ → ℕ
peaks_in_state o n = peaks_of (option_map_or (λ x. x.writes) o []) n

keep_peaks : (slots : SessionSlots) (state later : State) (s : ℕ) (o : Option Held) (x : Option Session) → s < length slots → SamePeaks slots state
    → ((q : ℕ) → get later.sessions q ≡ cond (eq_by_cmp nat_cmp q s) x (get state.sessions q)) → ((n : ℕ) → slot_peaks o n ≡ peaks_in_state x n)
    → SamePeaks (set slots s o) later
keep_peaks slots state later s o x within same gets peaks q n =
    ap (λ (k : Option Held). slot_peaks k n) (get_or-set slots s o q within) ∙ by_key (eq_by_cmp nat_cmp q s) ∙ sym (ap (λ (k : Option Session). peaks_in_state k n) (gets q))
  where
    by_key : (b : Bool) → slot_peaks (cond b o (get_or slots q None)) n ≡ peaks_in_state (cond b x (get state.sessions q)) n
    by_key true = peaks n
    by_key false = same q n

pub commits_peak : (slots : SessionSlots) (state : State) (s : ℕ) → s < length slots → SamePeaks slots state → SamePeaks (after_end slots s) (rules.after_commit state s)
commits_peak slots state s within same = keep_peaks slots state (rules.after_commit state s) s None None within same (get-remove nat_cmp_total state.sessions s) (λ n. refl)

module _ (slots : SessionSlots) (state : State) (s : ℕ) (within : s < length slots) (sized : All IsSized slots) (names : SameNames (state_of slots) state) (same : SamePeaks slots state) where
  -- the session is open in both, or in neither
  both_open : option_map names_of (slot_of (held_at slots s)) ≡ option_map names_of (get state.sessions s)
  both_open = here slots state s within names

  shares_peak : (n : ℕ) → SamePeaks (after_share slots s n) (rules.after_share state s n)
  unfolding shared_more
  shares_peak n = keep_peaks slots state (rules.after_share state s n) s (option_map (with_shared n) (held_at slots s)) (option_map (λ x. cond (is_new_share state s n) (shared_more n x) x) (get state.sessions s)) within same
      (after_shared state s n) (λ q. slot_same (held_at slots s) q ∙ same s q ∙ sym (state_same (get state.sessions s) (is_new_share state s n) q))
    where
      slot_same : (o : Option Held) (q : ℕ) → slot_peaks (option_map (with_shared n) o) q ≡ slot_peaks o q
      slot_same None q = refl
      slot_same (Some h) q = by_tests (is_among n h.written) (is_among n h.shared)
        where
          by_tests : (a b : Bool) → slot_peaks (Some (cond a h (cond b h (record h { shared = h.shared ++ n ∷ [] })))) q ≡ slot_peaks (Some h) q
          by_tests true b = refl
          by_tests false true = refl
          by_tests false false = refl

      state_same : (o : Option Session) (t : Bool) (q : ℕ) → peaks_in_state (option_map (λ x. cond t (shared_more n x) x) o) q ≡ peaks_in_state o q
      state_same None t q = refl
      state_same (Some x) true q = refl
      state_same (Some x) false q = refl

  writes_peak : (n : ℕ) (change : Option (List ℕ)) → SamePeaks (after_write slots s n (size_in_page change)) (rules.after_write state s (n, change))
  writes_peak n change = keep_peaks slots state (rules.after_write state s (n, change)) s (option_map (with_written n (size_in_page change)) (held_at slots s)) (option_map (written_more (n, change)) (get state.sessions s)) within same
      (λ q. after_written state s q (n, change)) (by_slot (held_at slots s) (get state.sessions s) both_open (same s) (sized_at slots s sized))
    where
      by_slot : (o : Option Held) (y : Option Session) → option_map names_of (slot_of o) ≡ option_map names_of y → ((q : ℕ) → slot_peaks o q ≡ peaks_in_state y q) → IsSized o
          → (q : ℕ) → slot_peaks (option_map (with_written n (size_in_page change)) o) q ≡ peaks_in_state (option_map (written_more (n, change)) y) q
      by_slot None None is peaks sized q = refl
      by_slot None (Some x) is peaks sized q = absurd (cc is)
      by_slot (Some h) None is peaks sized q = absurd (cc is)
      by_slot (Some h) (Some x) is peaks sized q = written_peaks n (size_in_page change) h q sized ∙ ap (λ (k : ℕ). cond (n == q) (max (1 + size_in_page change) k) k) (peaks q)

  peaks_kept : KeepsNamePeaks slots state s
  peaks_kept = record {
    begins = λ number. keep_peaks slots state (rules.after_begin state s) s (Some (new_held number)) (Some rules.new_session) within same (get-insert nat_cmp_total state.sessions s rules.new_session) (λ n. refl);
    shares = shares_peak;
    writes = writes_peak;
    commits = commits_peak slots state s within same;
    aborts = keep_peaks slots state (rules.after_abort state s) s None None within same (get-remove nat_cmp_total state.sessions s) (λ n. refl);
    restarts = λ q n. ap (λ (o : Option Held). slot_peaks o n) (none_of (length slots) q) ∙ sym (ap (λ (o : Option Session). peaks_in_state o n) (get-empty nat_cmp q));
  }

pub keeps_peaks : CallsKeepPeaks
keeps_peaks slots state s within sized names same = peaks_kept slots state s within sized names same
