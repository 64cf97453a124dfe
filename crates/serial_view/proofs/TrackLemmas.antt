-- What is kept of a run stays that of its state.
use Rattle.std.proofs.Common.{◌≡◌, ◌≢◌, ◌⊎◌, inl, inr, ℕ, ◌+◌, ◌-◌, ◌<◌, ◌≤◌, ◌==◌, max, Bool, true, false, cond, not, List, length, Option, Some, None, refl, sym, ◌∙◌, ap, arith, get_or-set_same, get_or-set_other}
use Rattle.std.specs.Prelude.{is_some, slice_index, slice_set}
use Rattle.std.specs.List.{All}
use Rattle.std.specs.FinMap.{get}
use Rattle.std.specs.Option.{option_map_or}
use Rattle.std.proofs.lemmas.Bool.{cases_eq, eq-eqb, ne_eqb}
use Rattle.std.proofs.lemmas.List.{length-set}
use Rattle.ipl_base.specs.Sizes.{size_in_page}
use Rattle.ipl_base.specs.declared.limits.TheConstants.{SESSIONS}
use Rattle.ipl_model.specs.State.{Map, Write, State, is_open_session, last_write, writes_of, with_writes}
use Rattle.ipl_model.specs.Peaks.{peaks, peaks_of}
use Rattle.ipl_model.specs.Operations as rules
use Rattle.ipl_model.proofs.SeenLemmas.{get-with_writes}
use Rattle.ipl_model.proofs.RuleBatchLemmas.{closed_writes, other_writes}
use Rattle.ipl_model.specs.declared.command.Command.TheVariants as command
use Rattle.record_locks.specs.Held.{SessionSlots, written_of, is_among, after_begin, after_share, after_end}
use Rattle.record_locks.specs.Locks.{IsSized, OneWriter}
use Rattle.record_locks.specs.Names.{SameNames, SamePeaks}
use Rattle.record_locks.specs.Standing.{state_of}
use Rattle.record_locks.proofs.StandingLemmas.{new_write_at}
use Rattle.record_locks.proofs.SameLemmas.{new_writes_alike}
use Rattle.record_locks.proofs.KeepLemmas.{keeps_names, keeps_peaks}
use Rattle.serial_view.specs.Running.{KeptRun, run_limits, Tracks, Sets, after_write}
use Rattle.serial_view.proofs.SessionLemmas.{same_some}
use Rattle.serial_view.proofs.LockLemmas.{records_kept}
use Rattle.serial_view.proofs.MostLemmas.{begun_writes, shared_writes, written_here, written_elsewhere, unwritten_peak, all_most, alike_most, written_most, less_one}

-- what all sessions together have
pub record AreSessions (slots : SessionSlots) : Type 0 where
  pub all : length slots ≤ SESSIONS
  pub sized : All IsSized slots
  pub one_writer : OneWriter slots

pub are_sessions : (slots : SessionSlots) → length slots ≤ SESSIONS → OneWriter slots → All IsSized slots → AreSessions slots
are_sessions slots all one sized = record { all = all; sized = sized; one_writer = one }

not_same : (a b : Bool) → not a ≡ not b → b ≡ a
not_same true true is = refl
not_same true false is = absurd (cc)
not_same false true is = absurd (cc)
not_same false false is = refl

module _ (state : State) (run : KeptRun) (tracks : Tracks state run) where
  abbrev names : ℕ
  names = (run_limits run).names

  -- a session wrote a name where the name is listed
  among : (s n : ℕ) → is_among n (written_of run.slots s) ≡ is_some (last_write (writes_of state s) n)
  among s n =
      not_same _ _ (sym (new_writes_alike (state_of run.slots) state tracks.names s n) ∙ new_write_at run.slots s n)

  -- no other session wrote what one wrote
  alone : OneWriter run.slots → (s t n : ℕ) → is_among n (written_of run.slots s) ≡ true → t ≢ s
      → last_write (writes_of state t) n ≡ None
  alone one s t n wrote other = by_write (last_write (writes_of state t) n) (among t n)
    where
      by_write : (o : Option (Option (List ℕ))) → is_among n (written_of run.slots t) ≡ is_some o → o ≡ None
      by_write None is = refl
      by_write (Some change) is = absurd (other (sym (one s t n wrote is)))

  -- ---- a begin and a share

  calm : (next : State) (slots : SessionSlots) → SameNames (state_of slots) next → SamePeaks slots next
      → next.map ≡ state.map → ((t : ℕ) → writes_of next t ≡ writes_of state t)
      → Tracks next (record run { slots = slots })
  calm next slots held peaked same writes = record {
    names = held;
    peaks = peaked;
    places = tracks.places;
    records = λ n low. tracks.records n low ∙ ap (λ (m : Map). size_in_page (get m n)) (sym same);
    last = λ t n change low is.
        tracks.last t n change low (ap (λ (ws : List Write). last_write ws n) (sym (writes t)) ∙ is);
    most = λ n low.
        tracks.most n low ∙ ap (λ (m : ℕ). m - 1) (alike_most state next n (λ t.
        ap (λ (ws : List Write). peaks_of ws n) (sym (writes t))));
  }

  module _ (sound : AreSessions run.slots) (s : ℕ) (within : s < length run.slots) where
    pub begun : is_open_session state s ≡ false
        → Tracks (rules.after_begin state s) (record run { slots = after_begin run.slots s 0 })
    begun shut =
        calm (rules.after_begin state s) (after_begin run.slots s 0)
        ((keeps_names run.slots state s within tracks.names).begins 0)
        ((keeps_peaks run.slots state s within sound.sized tracks.names tracks.peaks).begins 0)
        refl (λ t. begun_writes state s t shut)

    pub shared : (n : ℕ) → Tracks (rules.after_share state s n) (record run { slots = after_share run.slots s n })
    shared n =
        calm (rules.after_share state s n) (after_share run.slots s n)
        ((keeps_names run.slots state s within tracks.names).shares n)
        ((keeps_peaks run.slots state s within sound.sized tracks.names tracks.peaks).shares n)
        (records_kept state (command.Share s n) refl) (shared_writes state s n)

    -- ---- a write

    module _ (n : ℕ) (change : Option (List ℕ)) (named : n < names) (opened : is_open_session state s ≡ true)
        (free : (t : ℕ) → t ≢ s → last_write (writes_of state t) n ≡ None) where
      abbrev size : ℕ
      size = size_in_page change

      abbrev next : State
      next = rules.after_write state s (n, change)

      last_then : (t k : ℕ) (other : Option (List ℕ)) → k < names → last_write (writes_of next t) k ≡ Some other
          → slice_index (slice_set run.last n size) k ≡ size_in_page other
      last_then t k other low is = by_name (cases_eq t s) (cases_eq n k)
        where
          own : t ≡ s → cond (n == k) (Some change) (last_write (writes_of state s) k) ≡ Some other
          own same =
              sym (ap (λ (j : ℕ). last_write (writes_of next j) k) same
              ∙ ap (λ (ws : List Write). last_write ws k) (written_here state s (n, change) opened)) ∙ is

          theirs : t ≢ s → last_write (writes_of state t) k ≡ Some other
          theirs apart =
              sym (ap (λ (ws : List Write). last_write ws k) (written_elsewhere state s t (n, change) opened apart))
              ∙ is

          beside : n ≢ k → slice_index (slice_set run.last n size) k ≡ slice_index run.last k
          beside apart = get_or-set_other run.last n k size 0 (λ e. apart (sym e))

          by_name : (t ≡ s) ⊎ (t ≢ s) → (n ≡ k) ⊎ (n ≢ k)
              → slice_index (slice_set run.last n size) k ≡ size_in_page other
          by_name (inl same) (inl here) =
              let it : change ≡ other = same_some change other (sym (ap (λ (b : Bool).
              cond b (Some change) (last_write (writes_of state s) k)) (eq-eqb n k here)) ∙ own same) in
              ap (slice_index (slice_set run.last n size)) (sym here)
              ∙ get_or-set_same run.last n size 0 (omega (arith, named, tracks.places.1)) ∙ ap size_in_page it
          by_name (inl same) (inr apart) =
              beside apart ∙ tracks.last s k other low (sym (ap (λ (b : Bool).
              cond b (Some change) (last_write (writes_of state s) k)) (ne_eqb n k apart)) ∙ own same)
          by_name (inr differ) (inl here) =
              let none : last_write (writes_of state t) k ≡ None =
              ap (last_write (writes_of state t)) (sym here) ∙ free t differ in
              absurd (let clash = sym none ∙ theirs differ in cc clash)
          by_name (inr differ) (inr apart) = beside apart ∙ tracks.last t k other low (theirs differ)

      most_then : (k : ℕ) → k < names
          → slice_index (slice_set run.most n (max size (slice_index run.most n))) k ≡ peaks next k - 1
      most_then k low = by_name (cases_eq n k)
        where
          now : (b : Bool) → (n == k) ≡ b
              → cond b (max (1 + size) (peaks state k)) (peaks state k) - 1 ≡ peaks next k - 1
          now b is =
              ap (λ (t : Bool). cond t (max (1 + size) (peaks state k)) (peaks state k) - 1) (sym is)
              ∙ ap (λ (m : ℕ). m - 1) (sym (written_most state s (n, change) opened k))

          by_name : (n ≡ k) ⊎ (n ≢ k)
              → slice_index (slice_set run.most n (max size (slice_index run.most n))) k ≡ peaks next k - 1
          by_name (inl here) =
              ap (λ (j : ℕ). slice_index (slice_set run.most j (max size (slice_index run.most j))) k) here
              ∙ get_or-set_same run.most k (max size (slice_index run.most k)) 0 (omega (arith, low, tracks.places.2))
              ∙ ap (max size) (tracks.most k low) ∙ sym (less_one size (peaks state k)) ∙ now true (eq-eqb n k here)
          by_name (inr apart) =
              get_or-set_other run.most n k (max size (slice_index run.most n)) 0 (λ e. apart (sym e))
              ∙ tracks.most k low ∙ now false (ne_eqb n k apart)

      pub written : Tracks (rules.after_write state s (n, change)) (after_write run s n (size_in_page change))
      written = record {
        names = (keeps_names run.slots state s within tracks.names).writes n size change;
        peaks = (keeps_peaks run.slots state s within sound.sized tracks.names tracks.peaks).writes n change;
        places = (
          tracks.places.0,
          length-set run.last n size ∙ tracks.places.1,
          length-set run.most n (max size (slice_index run.most n)) ∙ tracks.places.2,
        );
        records = λ k low.
            tracks.records k low
            ∙ ap (λ (m : Map). size_in_page (get m k)) (sym (map_kept change));
        last = last_then;
        most = most_then;
      }
        where
          map_kept : (o : Option (List ℕ)) → (rules.after_write state s (n, o)).map ≡ state.map
          map_kept None = records_kept state (command.Del s n) refl
          map_kept (Some bytes) = records_kept state (command.Put s n bytes) refl

    -- ---- an end

    abbrev ended : State
    ended = rules.after_commit state s

    pub closed : (most : List ℕ) → Sets (written_of run.slots s) (λ n. 0) run.most most
        → Tracks (rules.after_abort state s) (record run { slots = after_end run.slots s; most = most })
    closed most sets = record {
      names = (keeps_names run.slots state s within tracks.names).aborts;
      peaks = (keeps_peaks run.slots state s within sound.sized tracks.names tracks.peaks).aborts;
      places = (tracks.places.0, tracks.places.1, sets.long ∙ tracks.places.2);
      records = tracks.records;
      last = last_then;
      most = λ n low. most_then n low (is_among n (written_of run.slots s)) refl;
    }
      where
        last_then : (t n : ℕ) (change : Option (List ℕ)) → n < names → last_write (writes_of ended t) n ≡ Some change
            → slice_index run.last n ≡ size_in_page change
        last_then t n change low is = elim (cases_eq t s) [
          | inl same ↦
              let none : last_write (writes_of ended t) n ≡ None =
              ap (λ (k : ℕ). last_write (writes_of ended k) n) same
              ∙ ap (λ (ws : List Write). last_write ws n) (closed_writes state s 0) in
              absurd (let clash = sym none ∙ is in cc clash)
          | inr other ↦
              tracks.last t n change low
              (sym (ap (λ (ws : List Write). last_write ws n) (other_writes state s 0 t other)) ∙ is)
        ]

        gone : (t n : ℕ) → t ≡ s → peaks_of (writes_of ended t) n ≡ 0
        gone t n same =
            ap (λ (k : ℕ). peaks_of (writes_of ended k) n) same
            ∙ ap (λ (ws : List Write). peaks_of ws n) (closed_writes state s 0)

        kept : (t n : ℕ) → t ≢ s → peaks_of (writes_of ended t) n ≡ peaks_of (writes_of state t) n
        kept t n other = ap (λ (ws : List Write). peaks_of ws n) (other_writes state s 0 t other)

        set_at : (n : ℕ) → n < names → (b : Bool) → is_among n (written_of run.slots s) ≡ b
            → slice_index most n ≡ cond b 0 (slice_index run.most n)
        set_at n low b is =
            sets.sizes n (omega (arith, low, tracks.places.2))
            ∙ ap (λ (t : Bool). cond t 0 (slice_index run.most n)) is

        most_then : (n : ℕ) → n < names → (b : Bool) → is_among n (written_of run.slots s) ≡ b
            → slice_index most n ≡ peaks ended n - 1
        most_then n low true wrote =
            let none : peaks ended n ≡ 0 = zero_then (all_most ended n 0 (λ t. elim (cases_eq t s) [
              | inl same ↦ omega (arith, gone t n same)
              | inr other ↦
                  let zero = unwritten_peak (writes_of state t) n (alone sound.one_writer s t n wrote other) in
                  omega (arith, kept t n other, zero)
            ])) in
            set_at n low true wrote ∙ sym (ap (λ (m : ℕ). m - 1) none)
          where
            zero_then : {m : ℕ} → m ≤ 0 → m ≡ 0
            zero_then le = omega (arith, le)
        most_then n low false wrote =
            set_at n low false wrote ∙ tracks.most n low
            ∙ ap (λ (m : ℕ). m - 1) (alike_most state ended n (λ t. elim (cases_eq t s) [
              | inl same ↦
                  let none = unwritten (last_write (writes_of state s) n) (sym (among s n) ∙ wrote) in
                  let zero = unwritten_peak (writes_of state s) n none in
                  let was : peaks_of (writes_of state t) n ≡ peaks_of (writes_of state s) n =
                  ap (λ (k : ℕ). peaks_of (writes_of state k) n) same in
                  omega (arith, gone t n same, zero, was)
              | inr other ↦ sym (kept t n other)
            ]))
          where
            unwritten : (o : Option (Option (List ℕ))) → is_some o ≡ false → o ≡ None
            unwritten None is = refl
            unwritten (Some change) is = absurd (cc)

  -- the writes of a session become records, while it is open still
  pub copied : (s : ℕ) (records : List ℕ) → Sets (written_of run.slots s) (slice_index run.last) run.records records
      → Tracks (record state { map = with_writes (writes_of state s) state.map }) (record run { records = records })
  copied s records sets = record {
    names = tracks.names;
    peaks = tracks.peaks;
    places = (sets.long ∙ tracks.places.0, tracks.places.1, tracks.places.2);
    records = λ n low.
        sets.sizes n (omega (arith, low, tracks.places.0))
        ∙ ap (λ (t : Bool). cond t (slice_index run.last n) (slice_index run.records n)) (among s n)
        ∙ by_write n low (last_write (writes_of state s) n) refl
        ∙ sym (ap size_in_page (get-with_writes (writes_of state s) state.map n));
    last = tracks.last;
    most = tracks.most;
  }
    where
      by_write : (n : ℕ) → n < names → (o : Option (Option (List ℕ))) → last_write (writes_of state s) n ≡ o
          → cond (is_some (last_write (writes_of state s) n)) (slice_index run.last n) (slice_index run.records n)
          ≡ size_in_page (option_map_or (λ change. change) (last_write (writes_of state s) n) (get state.map n))
      by_write n low None is = rw is (tracks.records n low)
      by_write n low (Some change) is = rw is (tracks.last s n change low is)
