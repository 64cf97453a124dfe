-- Commit sectors, one after another.
use Rattle.std.proofs.Common.{◌≡◌, take, ◌&&◌, inl, inr, ◌≤◌, ◌<◌, ◌+◌, ◌*◌, ℕ, zero, suc, max, List, [], ◌∷◌, ◌++◌, ◌||◌, Bool, true, false, Result, Ok, Err, IfOk, IfErr, length, ◌-◌, Option, Some, None, drop, refl, sym, ◌∙◌, ap, subst, arith, add-one, nat_le}
use Rattle.std.proofs.lemmas.List.{drop-drop}
use Rattle.std.proofs.lemmas.Bool.{and_left, cases_eq, cases_Bool, cond-false, eqb-true, le-leb, or_cases}
use Rattle.ipl_format.specs.Numbers.{long_at}
use Rattle.ipl_format.specs.Sector.{Sector}
use Rattle.chip_trait.specs.Story.{Contents}
use Rattle.chip_trait.specs.declared.event.Event.TheVariants.{Read}
use Rattle.chip_trait.specs.Told.{Counts, Told}
use Rattle.ipl_base.specs.declared.fault.ChipFault.{ChipFault}
use Rattle.ipl_base.specs.declared.fault.ChipFault.TheVariants.{ReadFault, Stopped, Damaged, Malformed, WornOut}
use Rattle.ipl_base.specs.declared.fault.ImageFault.{ImageFault}
use Rattle.ipl_meaning.specs.Chart.{Chart}
use Rattle.unit_io.specs.Kinds.{of_kinds, header_only, status_only, sector_named}
use Rattle.sector_format.specs.declared.sector.Head.{Head}
use Rattle.sector_format.specs.Decode.{sector_of}
use Rattle.unit_io.specs.Reads.{Asked, IsReadFault}
use Rattle.unit_io.specs.ReadsAt.{IsAt, IsCauseAt, ReadsAt, ReadsOnce}
use Rattle.unit_io.proofs.OnceLemmas.{once_asked, once_then, once_wider}
use Rattle.unit_io.proofs.ReadsAtLemmas.{at_asked, at_then, at_wider}
use Rattle.ipl_meaning.specs.First.{greatest_of, joined_below}
use Rattle.ipl_meaning.specs.Payloads.{numbers_within}
use Rattle.ipl_meaning.specs.Live.{sectors, kept, is_commit_sector, is_close_mark, is_noted_of, commit_at, noted_at}
use Rattle.ipl_meaning.specs.LaidOut.{numbers_of}
use Rattle.ipl_meaning.specs.Faults.{TellsImageFault, noted_number, greatest_of_notes}
use Rattle.ipl_meaning.specs.Marked.{serial_of}
use Rattle.ipl_format.specs.Whole.{IsWhole}
use Rattle.ipl_meaning.proofs.FirstLemmas.{greatest_step, joined_step}
use Rattle.ipl_meaning.proofs.BelowLemmas.{greatest_of-push}
use Rattle.ipl_meaning.proofs.LiveLemmas.{noted_commits}
use Rattle.number_set.specs.Numbers.{Numbers, with_list, with_number, with_numbers}
use Rattle.number_set.proofs.NumberLemmas.{with_numbers_grow}
use Rattle.txn_status.specs.ReadingIn.{under, numbers_at, of_image, OnFull, IsCommitSpot, IsStatusAt, LooksOnceAt}
use Rattle.txn_status.specs.Marks.{MarksRead, with_noted, marks_below}

-- ---- the numbers of a payload

pub numbers_push : (n : ℕ) (bytes : List ℕ)
    → numbers_within (suc n) bytes ≡ numbers_within n bytes ++ long_at 0 (drop (8 * n) bytes) ∷ []
numbers_push zero bytes = refl
numbers_push (suc n) bytes =
    let at : 8 * suc n ≡ 8 + 8 * n = omega arith in
    rw (numbers_push n (drop 8 bytes), at)
    (ap (λ (rest : List ℕ). long_at 0 bytes ∷
    (numbers_within n (drop 8 bytes) ++ long_at 0 rest ∷ [])) (drop-drop (8 * n) 8 bytes))

-- the greatest with one number more
pub greatest_more : (least n greatest next : ℕ) (bytes : List ℕ)
    → greatest ≡ greatest_of least (numbers_within n bytes) → next ≡ long_at 0 (drop (8 * n) bytes)
    → max greatest next ≡ greatest_of least (numbers_within (n + 1) bytes)
greatest_more least n greatest next bytes so_far is =
    rw (add-one n, numbers_push n bytes, greatest_of-push, so_far, is) refl

-- several numbers, and then others
pub with_both : (a b numbers : List ℕ)
    → with_numbers (a ++ b) numbers ≡ with_numbers b (with_numbers a numbers)
with_both [] b numbers = refl
with_both (n ∷ a) b numbers = with_both a b (with_number n numbers)

-- one number of a payload more
pub payload_more : (n next : ℕ) (bytes : List ℕ) (first old new : Numbers)
    → old ≡ with_list first (with_numbers (numbers_within n bytes) first.list)
    → next ≡ long_at 0 (drop (8 * n) bytes) → new ≡ with_list old (with_number next old.list)
    → new ≡ with_list first (with_numbers (numbers_within (n + 1) bytes) first.list)
payload_more n next bytes first old new so_far is more =
    rw (
      add-one n,
      numbers_push n bytes,
      with_both (numbers_within n bytes) (long_at 0 (drop (8 * n) bytes) ∷ []) first.list,
      more,
      so_far,
      is,
    ) refl

-- the first numbers of a payload, and those behind them
pub numbers_behind : (n k : ℕ) (bytes : List ℕ)
    → numbers_within (n + k) bytes ≡ numbers_within n bytes ++ numbers_within k (drop (8 * n) bytes)
numbers_behind zero k bytes =
    let none : 0 + k ≡ k = omega arith in
    rw none refl
numbers_behind (suc n) k bytes =
    let at : 8 * suc n ≡ 8 + 8 * n = omega arith in
    let more : suc n + k ≡ suc (n + k) = omega arith in
    rw (more, at, numbers_behind n k (drop 8 bytes), drop-drop (8 * n) 8 bytes) refl

-- where one number of a payload has no room, all of them have none
pub payload_full : (n total next most : ℕ) (bytes : List ℕ) (first old : Numbers) → n < total
    → old ≡ with_list first (with_numbers (numbers_within n bytes) first.list)
    → next ≡ long_at 0 (drop (8 * n) bytes) → most < length (with_number next old.list)
    → most < length (with_numbers (numbers_within total bytes) first.list)
payload_full n total next most bytes first old within so_far is full =
    let one : with_list old (with_number next old.list) ≡ with_list first (with_numbers (numbers_within (n + 1) bytes) first.list) =
    payload_more n next bytes first old (with_list old (with_number next old.list)) so_far is refl in
    let all : n + 1 + (total - (n + 1)) ≡ total = omega arith in
    let rest : List ℕ = numbers_within (total - (n + 1)) (drop (8 * (n + 1)) bytes) in
    let grown : with_numbers (numbers_within total bytes) first.list
    ≡ with_numbers rest (with_numbers (numbers_within (n + 1) bytes) first.list) =
    ap (λ (k : ℕ). with_numbers (numbers_within k bytes) first.list) (sym all)
    ∙ ap (λ (l : List ℕ). with_numbers l first.list) (numbers_behind (n + 1) (total - (n + 1)) bytes)
    ∙ with_both (numbers_within (n + 1) bytes) rest first.list in
    omega (
      arith,
      full,
      ap (λ (w : Numbers). length w.list) one,
      with_numbers_grow rest (with_numbers (numbers_within (n + 1) bytes) first.list),
      ap (λ (l : List ℕ). length l) grown,
    )

-- ---- what is answered where numbers may have no room

-- done, what follows holds too
pub if_read : {T : Type 0} (r : Result (Option T) ChipFault) (P Q : T → Type 0) → ((v : T) → P v → Q v)
    → IfOk (of_image r) P → IfOk (of_image r) Q
if_read (Ok (Some v)) P Q then is = then v is
if_read (Ok None) P Q then is = tt
if_read (Err e) P Q then is = tt

-- and where it stopped
pub if_full : {T : Type 0} (r : Result (Option T) ChipFault) (P Q : Type 0) → (P → Q) → OnFull r P → OnFull r Q
if_full (Ok (Some v)) P Q then is = tt
if_full (Ok None) P Q then is = then is
if_full (Err e) P Q then is = tt

-- the answer is known
pub read_some : {T : Type 0} (r : Result (Option T) ChipFault) (o : Option T) (v : T) (P : T → Type 0)
    → r ≡ Ok o → o ≡ Some v → IfOk (of_image r) P → P v
read_some {T = T} r o v P is some holds = subst (λ (w : Result (Option T) ChipFault). IfOk (of_image w) P) (is ∙ ap Ok some) holds

pub fine_some : {T : Type 0} (r : Result (Option T) ChipFault) (o : Option T) (v : T) (fault : Option ImageFault)
    → r ≡ Ok o → o ≡ Some v → TellsImageFault fault (of_image r) → fault ≡ None
fine_some {T = T} r o v fault is some tells =
    subst (λ (w : Result (Option T) ChipFault). TellsImageFault fault (of_image w)) (is ∙ ap Ok some) tells

pub read_none : {T : Type 0} (r : Result (Option T) ChipFault) (o : Option T) (P : Type 0)
    → r ≡ Ok o → o ≡ None → OnFull r P → P
read_none {T = T} r o P is none holds = subst (λ (w : Result (Option T) ChipFault). OnFull w P) (is ∙ ap Ok none) holds

-- ---- one sector

-- why a spot isn't read, told of more spots
pub cause_wider : (At More : ℕ → ℕ → Type 0) (e : ChipFault) (old mid new : Told)
    → old.read_faults ≤ mid.read_faults → ((p s : ℕ) → At p s → More p s) → IsCauseAt At e mid new
    → IsCauseAt More e old new
cause_wider At More ReadFault old mid new more wider cause = omega (arith, more, cause)
cause_wider At More Stopped old mid new more wider cause = cause
cause_wider At More (Damaged p s stored computed) old mid new more wider cause = cause
cause_wider At More (Malformed p s) old mid new more wider cause = wider p s cause
cause_wider At More (WornOut n) old mid new more wider cause = cause

-- one sector was asked for, and why the call failed
pub looks_asked : {T U : Type 0} (p s : ℕ) (asked : Result U ChipFault) (result : Result T ChipFault)
    (old new : Told) → Asked (Read p s) asked old new → Counts old new
    → IfErr result (λ e. IsCauseAt (IsAt p s) e old new) → LooksOnceAt (IsAt p s) result old new
looks_asked p s asked result old new asks counts cause = record {
  reads = at_asked (IsAt p s) p s asked old new (refl, refl) asks counts;
  once = once_asked (IsAt p s) p s asked old new (refl, refl) asks;
  cause = cause;
}

-- since a read failed
pub read_failed : (At : ℕ → ℕ → Type 0) (e : ChipFault) (old new : Told) → IsReadFault e old new
    → IsCauseAt At e old new
read_failed At e old new failed =
    subst (λ (f : ChipFault). IsCauseAt At f old new) (sym failed.0) failed.1

pub in_place : (place sector : ℕ) → 1 ≤ sector → sector < 256 → (p s : ℕ) → IsAt place sector p s
    → IsCommitSpot place p s
in_place place sector least most p s is = (is.0, omega (arith, is.1), omega (arith, is.1))

-- the sectors of a place below one
abbrev pub IsCommitBelow : ℕ → ℕ → ℕ → ℕ → Type 0
IsCommitBelow place n p s = IsCommitSpot place p s × (s < n)

-- one more was read, once
pub once_more : (place sector : ℕ) (old mid new : Told) → 1 ≤ sector → sector < 256
    → ReadsOnce (IsCommitBelow place sector) old mid → ReadsOnce (IsAt place sector) mid new
    → ReadsOnce (IsCommitBelow place (sector + 1)) old new
once_more place sector old mid new least most =
    once_then (IsCommitBelow place sector) (IsAt place sector) (IsCommitBelow place (sector + 1)) old
    mid new (λ p s below here. omega (arith, below.1, here.1))
    (λ p s below. (below.0, omega (arith, below.1)))
    (λ p s here. (in_place place sector least most p s here, omega (arith, here.1)))

-- so they all were, at most
pub once_in_place : (place n : ℕ) (old new : Told) → ReadsOnce (IsCommitBelow place n) old new
    → ReadsOnce (IsCommitSpot place) old new
once_in_place place n old new =
    once_wider (IsCommitBelow place n) (IsCommitSpot place) old new (λ p s below. below.0)

-- the same of all reads
pub reads_more : (place sector : ℕ) (old mid new : Told) → 1 ≤ sector → sector < 256
    → ReadsAt (IsCommitSpot place) old mid → ReadsAt (IsAt place sector) mid new
    → ReadsAt (IsCommitSpot place) old new
reads_more place sector old mid new least most so_far more =
    at_then (IsCommitSpot place) old mid new so_far
    (at_wider (IsAt place sector) (IsCommitSpot place) mid new (in_place place sector least most) more)

-- one more wasn't read
pub looks_failed : {T : Type 0} (place sector : ℕ) (e : ChipFault) (old mid new : Told) → 1 ≤ sector
    → sector < 256 → ReadsAt (IsCommitSpot place) old mid
    → ReadsOnce (IsCommitBelow place sector) old mid
    → LooksOnceAt {T = T} (IsAt place sector) (Err e) mid new
    → LooksOnceAt {T = T} (IsCommitSpot place) (Err e) old new
looks_failed place sector e old mid new least most so_far once looks = record {
  reads = reads_more place sector old mid new least most so_far looks.reads;
  once = once_in_place place (sector + 1) old new
      (once_more place sector old mid new least most once looks.once);
  cause = cause_wider (IsAt place sector) (IsCommitSpot place) e old mid new so_far.counts.reads
      (in_place place sector least most) looks.cause;
}

-- ---- what is noted

-- of these kinds is what is noted
noted_of_kinds : (generation : ℕ) (o : Option Sector)
    → kept (is_noted_of generation) (status_only o) ≡ kept (is_noted_of generation) o
noted_of_kinds generation None = refl
noted_of_kinds generation (Some r) = elim (cases_Bool (nat_le 6 r.kind && nat_le r.kind 7)) [
  | inl yes_it ↦ rw yes_it refl
  | inr no_it ↦
      rw no_it (sym (cond-false (is_noted_of generation r) (Some r) None (and_left _ _ (other no_it))))
]
  where
    other : (nat_le 6 r.kind && nat_le r.kind 7) ≡ false
        → (is_commit_sector r || is_close_mark r) ≡ false
    other no_it = elim (cases_Bool (is_commit_sector r || is_close_mark r)) [
      | inl one ↦ elim (or_cases (is_commit_sector r) (is_close_mark r) one) [
        | inl commit ↦ absurd (let none : ◌≡◌ {A = Bool} true false =
            subst (λ (n : ℕ). (nat_le 6 n && nat_le n 7) ≡ false) (eqb-true r.kind 6 commit) no_it in cc)
        | inr close ↦ absurd (let none : ◌≡◌ {A = Bool} true false =
            subst (λ (n : ℕ). (nat_le 6 n && nat_le n 7) ≡ false) (eqb-true r.kind 7 close) no_it in cc)
      ]
      | inr none ↦ none
    ]

-- so is what was found at a sector
pub noted_found : (c : Chart) (p generation s : ℕ) (o : Option Sector) → 1 ≤ s
    → o ≡ status_only (c p s)
    → kept (is_noted_of generation) o ≡ noted_at c (under p generation) s
noted_found c p generation s o some is =
    let found : kept (is_noted_of generation) o ≡ kept (is_noted_of generation) (c p s) =
    ap (kept (is_noted_of generation)) is ∙ noted_of_kinds generation (c p s) in
    rw (le-leb 1 s some) found

-- the numbers that have no room among others are those of the commit sector there
pub commits_full : (c : Chart) (p generation s : ℕ) (o : Option Sector) (numbers : Numbers) → 1 ≤ s
    → o ≡ status_only (c p s)
    → numbers.most < length (with_numbers (numbers_of (kept is_commit_sector (kept (is_noted_of generation) o))) numbers.list)
    → numbers.most < length (with_numbers (numbers_of (commit_at c (under p generation) s)) numbers.list)
commits_full c p generation s o numbers some is many =
    subst (λ (w : Option Sector). numbers.most < length (with_numbers (numbers_of w) numbers.list))
    (ap (kept is_commit_sector) (noted_found c p generation s o some is) ∙ noted_commits c (under p generation) s)
    many

-- ---- the sectors of a place

pub number_more : (c : Chart) (p generation s greatest noted next : ℕ)
    → greatest ≡ greatest_of_notes 0 c (under p generation) s
    → noted ≡ noted_number (noted_at c (under p generation) s) → next ≡ max greatest noted
    → next ≡ greatest_of_notes 0 c (under p generation) (s + 1)
number_more c p generation s greatest noted next so_far own number =
    number ∙ ap (max greatest) own
    ∙ ap (λ (n : ℕ). max n (noted_number (noted_at c (under p generation) s))) so_far
    ∙ sym (greatest_step 0 (λ j. noted_number (noted_at c (under p generation) j)) s)

-- the marks with one sector more
pub marks_more : (c : Chart) (p generation s : ℕ) (before after : MarksRead)
    → before ≡ marks_below c p generation s
    → after ≡ with_noted (noted_at c (under p generation) s) before
    → after ≡ marks_below c p generation (s + 1)
marks_more c p generation s before after so_far more =
    rw (
      more,
      so_far,
      noted_commits c (under p generation) s,
      greatest_step 0 (λ j. serial_of (commit_at c (under p generation) j)) s,
      add-one s,
    ) refl

pub numbers_more : (c : Chart) (p generation s : ℕ) (before after : List ℕ)
    → before ≡ with_numbers (joined_below
    (λ j. numbers_of (commit_at c (under p generation) j)) s) []
    → after ≡ with_numbers (numbers_of (kept is_commit_sector (noted_at c (under p generation) s))) before
    → after ≡ with_numbers (joined_below (λ j. numbers_of (commit_at c (under p generation) j))
    (s + 1)) []
numbers_more c p generation s before after so_far more =
    let f : ℕ → List ℕ = λ j. numbers_of (commit_at c (under p generation) j) in
    more ∙ ap (λ (o : Option Sector). with_numbers (numbers_of o) before) (noted_commits c (under p generation) s)
    ∙ ap (with_numbers (f s)) so_far ∙ sym (with_both (joined_below f s) (f s) [])
    ∙ ap (λ (l : List ℕ). with_numbers l []) (sym (joined_step f s))

-- no fewer numbers are in more sectors
pub joined_grow : (f : ℕ → List ℕ) (n k : ℕ)
    → length (with_numbers (joined_below f n) []) ≤ length (with_numbers (joined_below f (n + k)) [])
joined_grow f n zero =
    let none : n + 0 ≡ n = omega arith in
    rw none (omega arith)
joined_grow f n (suc k) =
    let at : n + suc k ≡ n + k + 1 = omega arith in
    let more : with_numbers (joined_below f (n + k + 1)) [] ≡ with_numbers (f (n + k)) (with_numbers (joined_below f (n + k)) []) =
    ap (λ (l : List ℕ). with_numbers l []) (joined_step f (n + k)) ∙ with_both (joined_below f (n + k)) (f (n + k)) [] in
    rw (at, more) (omega (arith, joined_grow f n k, with_numbers_grow (f (n + k)) (with_numbers (joined_below f (n + k)) [])))

-- where those of one have no room, all of them have none
pub numbers_full : (c : Chart) (p generation s most : ℕ) (before : List ℕ) → s < sectors
    → before ≡ with_numbers (joined_below (λ j. numbers_of (commit_at c (under p generation) j)) s) []
    → most < length (with_numbers (numbers_of (commit_at c (under p generation) s)) before)
    → most < length (numbers_at c (under p generation))
numbers_full c p generation s most before within so_far full =
    let f : ℕ → List ℕ = λ j. numbers_of (commit_at c (under p generation) j) in
    let one : with_numbers (f s) before ≡ with_numbers (joined_below f (s + 1)) [] =
    ap (with_numbers (f s)) so_far ∙ sym (with_both (joined_below f s) (f s) [])
    ∙ ap (λ (l : List ℕ). with_numbers l []) (sym (joined_step f s)) in
    let all : s + 1 + (sectors - (s + 1)) ≡ sectors = omega arith in
    omega (
      arith,
      full,
      ap (λ (l : List ℕ). length l) one,
      joined_grow f (s + 1) (sectors - (s + 1)),
      ap (λ (n : ℕ). length (with_numbers (joined_below f n) [])) all,
    )

-- the sectors that were read are whole
pub whole_more : (x : Contents) (p n : ℕ) → ((s : ℕ) → 1 ≤ s → s < n → IsWhole (x p s))
    → IsWhole (x p n) → (s : ℕ) → 1 ≤ s → s < n + 1 → IsWhole (x p s)
whole_more x p n so_far here s some low = elim (cases_eq s n) [
  | inl same ↦ subst (λ (r : ℕ). IsWhole (x p r)) (sym same) here
  | inr other ↦ so_far s some (omega arith)
]

-- ---- the header

-- where a sector of the kinds asked for was found, it is there
found_there : (first last : ℕ) (o : Option Sector) (s : Sector) → of_kinds first last o ≡ Some s
    → o ≡ Some s
found_there first last None s is = absurd cc
found_there first last (Some r) s is =
    elim (cases_Bool (nat_le first r.kind && nat_le r.kind last)) [
      | inl yes_it ↦ rw yes_it at is
      | inr no_it ↦ absurd (let none : ◌≡◌ {A = Option Sector} None (Some s) = rw no_it at is in cc)
    ]

pub status_there : (c : Chart) (p : ℕ) (bytes : List ℕ) (found : Option (Head × ℕ)) (head : Head)
    (used : ℕ) → found ≡ Some (head, used) → head.kind ≡ 2
    → sector_named bytes found ≡ header_only (c p 0)
    → (s : Sector) × IsStatusAt c p s
status_there c p bytes found head used is kind exact = (
  sector_of head (take used (drop 32 bytes)),
  (found_there 1 3 (c p 0) _ (sym exact ∙ ap (sector_named bytes) is), kind),
)
