-- Tables that have the sessions' numbers in the order of their slots.
use Rattle.std.proofs.Common.{Bool, List, None, Some, [], ap, arith, false, inl, inr, subst, suc, zero, ℕ, ◌<◌, ◌∷◌, ◌≡◌}
use Rattle.std.specs.List.{All, AllPairs, Contains}
use Rattle.std.proofs.lemmas.List.Elements.{All-contains}
use Rattle.std.proofs.lemmas.List.Kept.{AllPairs-cons}
use Rattle.ipl_model.specs.State.{State}
use Rattle.record_locks.specs.Held.{SessionSlots, is_among, number_of, numbers_in}
use Rattle.ipl_meaning.specs.Chart.{Chart}
use Rattle.ipl_meaning.specs.Layout.{Layout}
use Rattle.ipl_meaning.specs.Mirrors.{AreApart, Mirrors}
use Rattle.ipl_meaning.specs.Tables.{Tables}
use Rattle.store_laws.specs.PendingLaws.{AreActive}
use Rattle.store_laws.specs.Fits.{is_active, Fits}
use Rattle.store_laws.specs.Frames.{Frames, AreFramesOf}
use Rattle.store_laws.specs.StepLaws.{SessionNumbersFit}
use Rattle.store_laws.proofs.ActiveLemmas.{among_listed, is_listed, listed_among, same_truth}
use Rattle.store_laws.proofs.ElementLemmas.{all_listed, contains_cons, contains_here, contains_nil, contains_there}
use Rattle.store_laws.proofs.TableLemmas.{others_mirror}

-- ---- the numbers of slots

pub listed_number : (slots : SessionSlots) (n : ℕ) → Contains (numbers_in slots) n
    → (s : ℕ) × (number_of slots s ≡ Some n)
listed_number [] n is = absurd (contains_nil n is)
listed_number (None ∷ slots) n is = let (s, mine) = listed_number slots n is in (suc s, mine)
listed_number (Some h ∷ slots) n is = elim (contains_cons h.number (numbers_in slots) n is) [
  | inl same ↦ (0, ap (λ (k : ℕ). Some k) same)
  | inr later ↦ let (s, mine) = listed_number slots n later in (suc s, mine)
]

pub number_listed : (slots : SessionSlots) (s n : ℕ) → number_of slots s ≡ Some n
    → Contains (numbers_in slots) n
number_listed [] s n mine = absurd (cc mine)
number_listed (None ∷ slots) zero n mine = absurd (cc mine)
number_listed (None ∷ slots) (suc s) n mine = number_listed slots s n mine
number_listed (Some h ∷ slots) zero n mine =
    let same : h.number ≡ n = cc mine in
    subst (Contains (numbers_in (Some h ∷ slots))) same (contains_here h.number (numbers_in slots))
number_listed (Some h ∷ slots) (suc s) n mine =
    contains_there h.number (numbers_in slots) n (number_listed slots s n mine)

-- the test of being among them passes exactly these
pub listed_active : (slots : SessionSlots) → AreActive (number_of slots) (λ n. is_among n (numbers_in slots))
listed_active slots n = (
  λ is. listed_number slots n (listed_among (numbers_in slots) n is),
  λ (s, mine). among_listed (numbers_in slots) n (number_listed slots s n mine),
)

-- sessions with numbers of their own have each once
pub listed_once : (slots : SessionSlots)
    → ((s t tid : ℕ) → number_of slots s ≡ Some tid → number_of slots t ≡ Some tid → s ≡ t)
    → AllPairs AreApart (numbers_in slots)
listed_once [] apart = λ i j d before within. absurd (omega (arith, within))
listed_once (None ∷ slots) apart =
    listed_once slots (λ s t tid one two. let same = apart (suc s) (suc t) tid one two in omega (arith, same))
listed_once (Some h ∷ slots) apart =
    AllPairs-cons AreApart h.number (numbers_in slots)
    (all_listed (AreApart h.number) (numbers_in slots) (λ n there same.
    let (t, mine) = listed_number slots n there in
    let clash = apart 0 (suc t) n (ap (λ (k : ℕ). Some k) same) mine in
    omega (arith, clash)))
    (listed_once slots (λ s t tid one two. let same = apart (suc s) (suc t) tid one two in omega (arith, same)))

-- ---- in the tables

-- with the numbers in another order
pub members_fit : (places : ℕ) (c : Chart) (it : Layout) (t : Tables) (frames : Frames) (slots : SessionSlots) (state : State)
    (active : List ℕ) → Fits places c it t frames slots state
    → AreActive (number_of slots) (λ n. is_among n active) → AllPairs AreApart active
    → Fits places c it (record t { active = active }) frames slots state
members_fit places c it t frames slots state active fits tells once = record {
  mirrors = others_mirror places c it t t.next active was (omega arith) (of_open (λ n. n < t.next) was.numbers.below) once
      (of_open (λ n. it.committed n ≡ false) was.numbers.waits);
  none_lost = fits.none_lost;
  pending = fits.pending;
  filled = fits.filled;
  active = tells;
  framed = subst (λ (test : ℕ → Bool). AreFramesOf it.count c it test frames) (λ i n. alike n i) fits.framed;
  sessions = fits.sessions;
}
  where
    was : Mirrors places c it t
    was = fits.mirrors

    of_open : (P : ℕ → Type 0) → All P t.active → All P active
    of_open P all = all_listed P active (λ n there.
        let (s, mine) = (tells n).0 (among_listed active n there) in
        All-contains P t.active n all (is_listed (number_of slots) t fits.active s n mine))

    alike : (n : ℕ) → is_active t n ≡ is_among n active
    alike n = same_truth (is_active t n) (is_among n active)
        (λ is. (tells n).1 ((fits.active n).0 is)) (λ is. (fits.active n).1 ((tells n).0 is))

pub session_numbers_fit : SessionNumbersFit
session_numbers_fit places c it t frames slots state fits =
    members_fit places c it t frames slots state (numbers_in slots) fits (listed_active slots)
    (listed_once slots fits.pending.apart)
