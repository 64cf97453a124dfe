-- A store fits after several sessions are committed together.
use Rattle.std.proofs.Common.{Bool, List, None, Some, [], ap, arith, false, length, refl, sym, ℕ, ◌<◌, ◌∙◌, ◌∷◌, ◌≡◌}
use Rattle.std.specs.List.{All, Contains}
use Rattle.std.proofs.lemmas.List.{length-set}
use Rattle.std.proofs.lemmas.List.Elements.{All-contains}
use Rattle.ipl_model.proofs.RuleBatchLemmas.{distinct}
use Rattle.ipl_model.specs.Operations as rules
use Rattle.ipl_model.specs.State.{State}
use Rattle.record_locks.specs.Held.{SessionSlots, after_end, after_batch, is_among, number_of, numbers_in}
use Rattle.record_locks.proofs.BatchLemmas.{batches_keep_names, batches_keep_peaks}
use Rattle.ipl_meaning.specs.Chart.{Chart}
use Rattle.ipl_meaning.specs.Last.{last_that}
use Rattle.ipl_meaning.specs.Layout.{Layout}
use Rattle.ipl_meaning.specs.Steps.{KeepsPages, with_committed}
use Rattle.ipl_meaning.specs.Tables.{Tables}
use Rattle.ipl_meaning.specs.Values.{counts_for}
use Rattle.store_laws.specs.Pending.{SessionNumbers, with_number, records_at, IsWrittenOut}
use Rattle.store_laws.specs.PendingLaws.{JoinInTurn, NumbersJoin, without_sessions}
use Rattle.store_laws.specs.Frames.{Frames, pending_of, logs_of, AreFramesOf}
use Rattle.store_laws.specs.Fits.{AreSessionsOf, is_active, Fits}
use Rattle.store_laws.specs.StepLaws.{AreOpen, BatchesFit}
use Rattle.record_locks.specs.Held.{writer_numbers}
use Rattle.store_laws.proofs.ActiveLemmas.{is_listed, same_truth}
use Rattle.store_laws.proofs.PendingBatchLemmas.{AreLeft, join_in_turn, batch_waits}
use Rattle.store_laws.proofs.ElementLemmas.{all_listed, contains_here, contains_there}
use Rattle.store_laws.proofs.FitLemmas.{sessions_are_sound, wrote_listed}
use Rattle.store_laws.proofs.ListedLemmas.{listed_active, listed_number, listed_once}
use Rattle.store_laws.proofs.PendingNumberLemmas.{number_ended, still_open}
use Rattle.store_laws.proofs.RoomLemmas.{room_kept}
use Rattle.store_laws.proofs.SameLemmas.{pending_with_numbers}
use Rattle.store_laws.proofs.TableLemmas.{others_mirror}
use Rattle.store_laws.proofs.TurnLemmas.{Waits}

-- ---- numbers

-- the numbers of the slots once the sessions are closed
number_batch : (slots : SessionSlots) (ss : List ℕ) → ((s : ℕ) → Contains ss s → s < length slots)
    → number_of (after_batch slots ss) ≡ without_sessions (number_of slots) ss
number_batch slots [] within = refl
number_batch slots (s ∷ ss) within =
    number_batch (after_end slots s) ss
    (λ t there. omega (arith, within t (contains_there s ss t there), length-set slots s None))
    ∙ ap (λ (f : SessionNumbers). without_sessions f ss) (number_ended slots s (within s (contains_here s ss)))

-- a session that has one then had it before
pub still_numbered : (numbers : SessionNumbers) (ss : List ℕ) (t tid : ℕ) → without_sessions numbers ss t ≡ Some tid
    → numbers t ≡ Some tid
still_numbered numbers [] t tid is = is
still_numbered numbers (s ∷ ss) t tid is =
    (still_open numbers s t tid (still_numbered (with_number numbers s None) ss t tid is)).1

-- ---- what holds before the first is committed

pub fits_wait : (places : ℕ) (c : Chart) (it : Layout) (t : Tables) (frames : Frames) (slots : SessionSlots) (state : State)
    → Fits places c it t frames slots state → Waits places c it frames (number_of slots) state
fits_wait places c it t frames slots state fits = record {
  tables = t;
  pending = fits.pending;
  filled = fits.filled;
  one_writer = (sessions_are_sound slots state fits.sessions).0;
  tells = fits.active;
  framed = fits.framed;
}

pub all_left : (slots : SessionSlots) (state : State) (ss : List ℕ) → AreSessionsOf slots state
    → AreLeft slots (number_of slots) state ss
all_left slots state ss are = record {
  number = λ s there. refl;
  listed = λ s n there is. wrote_listed slots state are s n is;
}

-- the numbers of open sessions, none named twice, join one after the other
pub sessions_join : (places : ℕ) (c : Chart) (it : Layout) (t : Tables) (frames : Frames) (slots : SessionSlots)
    (state : State) (ss : List ℕ) (committed : ℕ → Bool) → Fits places c it t frames slots state → AreOpen slots ss
    → ((s tid : ℕ) → Contains ss s → number_of slots s ≡ Some tid → IsWrittenOut (logs_of frames) tid)
    → NumbersJoin it.committed (writer_numbers slots ss) committed
    → JoinInTurn (number_of slots) (logs_of frames) state ss it.committed committed
sessions_join places c it t frames slots state ss committed fits are out joins =
    join_in_turn slots (number_of slots) (logs_of frames) state ss it.committed committed (distinct ss are.once)
    (all_left slots state ss fits.sessions)
    (λ s there. let (tid, mine) = are.number s there in (tid, mine, out s tid there mine)) joins

-- ---- the frames over another chart

frames_over : (places : ℕ) (c y : Chart) (it : Layout) (active rest : ℕ → Bool) (frames : Frames)
    → KeepsPages places c it y it → ((n : ℕ) → active n ≡ rest n) → AreFramesOf it.count c it active frames
    → AreFramesOf it.count y it rest frames
frames_over places c y it active rest frames keeps alike framed = record {
  within = framed.within;
  each = λ u page f is.
      let (low, few) = framed.within u page f is in
      let was = framed.each u page f is in record {
        shows = keeps.shown u page f.values low few was.shows;
        changes = λ slot less.
            was.changes slot less
            ∙ ap (λ (test : ℕ → Bool). pending_of (last_that (counts_for test page slot)
            (records_at it (logs_of frames) u page) None)) (λ i n. alike n i);
      };
}

-- ---- all of it

pub batches_fit : BatchesFit
batches_fit places c y it t later frames after slots state ss committed fits are out joins changes locked mirrors more
    none_lost keeps =
    record {
      mirrors = others_mirror places y new later later.next (numbers_in closed) mirrors (omega arith)
          (of_left (λ n. n < later.next) below)
          (listed_once closed apart)
          (of_left (λ n. committed n ≡ false) (λ s n mine. waits.pending.waits s n (then s n mine)));
      none_lost = none_lost;
      pending = pending_with_numbers it.count new (logs_of after) (without_sessions (number_of slots) ss)
          (number_of closed) (rules.after_batch state ss) numbers waits.pending;
      filled = room_kept it.count c y new new (rules.after_batch state ss) (rules.after_batch state ss) keeps.shown
          (λ n. omega arith) waits.filled;
      active = listed_active closed;
      framed = frames_over places c y new (is_active waits.tables) (λ n. is_among n (numbers_in closed)) after keeps
          alike waits.framed;
      sessions = record {
        names = batches_keep_names slots state ss are.within fits.sessions.names;
        peaks = batches_keep_peaks slots state ss are.within fits.sessions.peaks;
        locked = locked;
      };
    }
  where
    new : Layout
    new = with_committed it committed

    closed : SessionSlots
    closed = after_batch slots ss

    waits : Waits places c new after (without_sessions (number_of slots) ss) (rules.after_batch state ss)
    waits = batch_waits places c it frames after (number_of slots) state ss committed
        (fits_wait places c it t frames slots state fits)
        (sessions_join places c it t frames slots state ss committed fits are out joins) changes

    numbers : number_of closed ≡ without_sessions (number_of slots) ss
    numbers = number_batch slots ss are.within

    then : (s n : ℕ) → number_of closed s ≡ Some n → without_sessions (number_of slots) ss s ≡ Some n
    then s n mine = sym (λ i. numbers i s) ∙ mine

    of_left : (P : ℕ → Type 0) → ((s n : ℕ) → number_of closed s ≡ Some n → P n) → All P (numbers_in closed)
    of_left P each = all_listed P (numbers_in closed) (λ n there.
        let (s, mine) = listed_number closed n there in each s n mine)

    below : (s n : ℕ) → number_of closed s ≡ Some n → n < later.next
    below s n mine =
        let was = still_numbered (number_of slots) ss s n (then s n mine) in
        let listed = is_listed (number_of slots) t fits.active s n was in
        let low = All-contains (λ k. k < t.next) t.active n fits.mirrors.numbers.below listed in
        omega (arith, low, more)

    apart : (s u n : ℕ) → number_of closed s ≡ Some n → number_of closed u ≡ Some n → s ≡ u
    apart s u n one two = waits.pending.apart s u n (then s n one) (then u n two)

    alike : (n : ℕ) → is_active waits.tables n ≡ is_among n (numbers_in closed)
    alike n =
        let before = waits.tells n in
        let now = listed_active closed n in
        same_truth (is_active waits.tables n) (is_among n (numbers_in closed))
        (λ is. let (s, mine) = before.0 is in now.1 (s, (λ i. numbers i s) ∙ mine))
        (λ is. let (s, mine) = now.0 is in before.1 (s, then s n mine))
