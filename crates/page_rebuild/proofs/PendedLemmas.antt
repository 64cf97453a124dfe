-- Records passed, while pending changes are set.
use Rattle.std.proofs.Common.{◌≡◌, ◌≢◌, ◌≤◌, ◌<◌, ◌+◌, ◌-◌, ◌⊎◌, ℕ, Bool, true, false, not, List, [], ◌∷◌, ◌++◌, length, Option, Some, None, refl, sym, ◌∙◌, ap, subst, inl, inr, arith, append_assoc}
use Rattle.std.specs.Prelude.{◌↔◌, ◌==◌, IsTrue, slice_index, slice_set, if◌then◌else◌}
use Rattle.std.specs.Bool.{OnTrue}
use Rattle.std.specs.List.{count_by, list_any}
use Rattle.std.proofs.lemmas.Bool.{cases_Bool, cases_eq, eq-eqb, ne_eqb}
use Rattle.std.proofs.lemmas.List.{get_or-set_same, get_or-set_other, length-set}
use Rattle.ipl_base.specs.declared.limits.TheConstants.{PAGE_LEN}
use Rattle.ipl_format.specs.Record.{Record}
use Rattle.ipl_format.specs.Page.{Slots, value_in}
use Rattle.ipl_meaning.specs.Values.{counts_for}
use Rattle.ipl_meaning.specs.Last.{last_that}
use Rattle.page_ops.specs.Pending.{Pendings, fill_by, with_pending}
use Rattle.page_ops.specs.Frames.{FrameView, values_in, pending_in}
use Rattle.page_ops.specs.Rebuilt.{AreComing}
use Rattle.page_ops.proofs.RebuildLemmas.{any_count, counts_first, skips_first, on_own, on_another, of_another_page, of_no_number}
use Rattle.page_rebuild.proofs.RoomLemmas.{fewer_pending, over_from}
use Rattle.page_rebuild.specs.Taken.{pending_of, last_changes}
use Rattle.page_rebuild.specs.Pended.{AreSetSoFar, IsSetting, AreSet, IsTooFull}

-- ---- the last record that counts

pub last_none : (test : Record → Bool) (records : List Record) (before : Option Record)
    → list_any test records ≡ false → last_that test records before ≡ before
last_none test [] before none = refl
last_none test (r ∷ records) before none = elim (cases_Bool (test r)) [
  | inl passes ↦ absurd (let is_not = rw passes at none in cc is_not)
  | inr fails ↦ let later : list_any test records ≡ false = rw fails at none in
      rw fails (last_none test records before later)
]

last_here : (test : Record → Bool) (before after : List Record) (r : Record) (o : Option Record)
    → test r ≡ true → list_any test after ≡ false → last_that test (before ++ r ∷ after) o ≡ Some r
last_here test [] after r o is none =
    ap (λ (b : Bool). last_that test after (if b then Some r else o)) is
    ∙ last_none test after (Some r) none
last_here test (b ∷ before) after r o is none = last_here test before after r _ is none

-- ---- step by step

module _ (active : ℕ → Bool) (page : ℕ) where
  -- so far the changes of some slots are set
  some_are_set : (all rest : List Record) (pending : Pendings)
      → AreSetSoFar active page all rest pending → (slot : ℕ) → slot < 64
      → (pending slot ≡ None) ⊎ (pending slot ≡ last_changes active page all slot)
  some_are_set all rest pending set slot low =
      one (list_any (counts_for active page slot) rest) (set slot low)
    where
      one : (b : Bool) → pending slot ≡ (if b then None else last_changes active page all slot)
          → (pending slot ≡ None) ⊎ (pending slot ≡ last_changes active page all slot)
      one true is = inl is
      one false is = inr is

  -- at first
  pub setting_first : (all : List Record) (counts : List ℕ) (now : FrameView)
      → AreComing active page all counts
      → ((slot : ℕ) → slot < 64 → pending_in now slot ≡ None)
      → IsSetting active page all all now.page counts now
  setting_first all counts now coming idle = record {
    done = [];
    parts = refl;
    coming = coming;
    set = λ slot low.
        let test = counts_for active page slot in
        idle slot low ∙ (elim (cases_Bool (list_any test all)) [
          | inl some ↦ rw some refl
          | inr none ↦ rw none (sym (ap pending_of (last_none test all None none)))
        ]);
    same = refl;
  }

  module _ {all rest : List Record} {held : Slots} {counts : List ℕ} {now : FrameView} {r : Record}
      (so : IsSetting active page all (r ∷ rest) held counts now) where
    further : all ≡ (so.done ++ r ∷ []) ++ rest
    further = so.parts ∙ sym (append_assoc so.done (r ∷ []) rest)

    -- a slot on which the record doesn't count is as it was
    still : (slot : ℕ) → slot < 64 → counts_for active page slot r ≡ false
        → pending_in now slot ≡ (if list_any (counts_for active page slot) rest then None
        else last_changes active page all slot)
    still slot low other = rw other at (so.set slot low)

    -- a record that doesn't count
    pub setting_past : ((slot : ℕ) → slot < 64 → counts_for active page slot r ≡ false)
        → IsSetting active page all rest held counts now
    setting_past other = record {
      done = so.done ++ r ∷ [];
      parts = further;
      coming = λ slot low. so.coming slot low
          ∙ skips_first (counts_for active page slot) r rest (other slot low);
      set = λ slot low. still slot low (other slot low);
      same = so.same;
    }

    module _ (low : r.slot < 64) (own : counts_for active page r.slot r ≡ true) where
      one_more : slice_index counts r.slot ≡ 1 + count_by (counts_for active page r.slot) rest
      one_more = so.coming r.slot low ∙ counts_first (counts_for active page r.slot) r rest own

      module _ {later : List ℕ} (long : length later ≡ 64)
          (taken : later ≡ slice_set counts r.slot (slice_index counts r.slot - 1)) where
        count_here : slice_index later r.slot ≡ count_by (counts_for active page r.slot) rest
        count_here =
            ap (λ (l : List ℕ). slice_index l r.slot) taken
            ∙ get_or-set_same counts r.slot (slice_index counts r.slot - 1) 0
            (omega (
              arith,
              low,
              long,
              ap length taken,
              length-set counts r.slot (slice_index counts r.slot - 1),
            ))
            ∙ omega (arith, one_more)

        fewer_coming : AreComing active page rest later
        fewer_coming slot within = elim (cases_eq r.slot slot) [
          | inl same ↦
              subst (λ (k : ℕ). slice_index later k ≡ count_by (counts_for active page k) rest)
              same count_here
          | inr other ↦
              ap (λ (l : List ℕ). slice_index l slot) taken
              ∙ get_or-set_other counts r.slot slot (slice_index counts r.slot - 1) 0
              (λ same. other (sym same))
              ∙ so.coming slot within
              ∙ skips_first (counts_for active page slot) r rest
              (on_another active page r slot other)
        ]

        -- whether others are to come on its slot
        left_here : (slice_index later r.slot == 0)
            ≡ not (list_any (counts_for active page r.slot) rest)
        left_here = ap (λ (n : ℕ). n == 0) count_here
            ∙ any_count (counts_for active page r.slot) rest

        -- a record that counts, but isn't the last one on its slot
        pub setting_earlier : (slice_index later r.slot == 0) ≡ false
            → IsSetting active page all rest held later now
        setting_earlier more = record {
          done = so.done ++ r ∷ [];
          parts = further;
          coming = fewer_coming;
          set = λ slot within. elim (cases_eq r.slot slot) [
            | inl same ↦ subst Kept same here
            | inr other ↦ still slot within (on_another active page r slot other)
          ];
          same = so.same;
        }
          where
            Kept : ℕ → Type 0
            Kept slot = pending_in now slot ≡ (if list_any (counts_for active page slot) rest
                then None else last_changes active page all slot)

            is_left : (b : Bool) → false ≡ not b → b ≡ true
            is_left true is = refl
            is_left false is = absurd (cc is)

            here : Kept r.slot
            here =
                let some : list_any (counts_for active page r.slot) rest ≡ true =
                is_left _ (sym more ∙ left_here) in
                let nothing : pending_in now r.slot ≡ None = rw own at (so.set r.slot low) in
                nothing ∙ rw some refl

        module _ (last : (slice_index later r.slot == 0) ≡ true) where
          -- the last one on its slot
          set_last : AreSetSoFar active page all rest
              (with_pending (pending_in now) r.slot (r.tid, r.change))
          set_last slot within = elim (cases_eq r.slot slot) [
            | inl same ↦ subst Given same here
            | inr other ↦
                ap (λ (b : Bool). if b then Some (r.tid, r.change) else pending_in now slot)
                (ne_eqb slot r.slot (λ same. other (sym same)))
                ∙ still slot within (on_another active page r slot other)
          ]
            where
              Given : ℕ → Type 0
              Given slot = with_pending (pending_in now) r.slot (r.tid, r.change) slot
                  ≡ (if list_any (counts_for active page slot) rest then None
                  else last_changes active page all slot)

              none_left : (b : Bool) → true ≡ not b → b ≡ false
              none_left false is = refl
              none_left true is = absurd (cc is)

              here : Given r.slot
              here =
                  let test = counts_for active page r.slot in
                  let none : list_any test rest ≡ false = none_left _ (sym last ∙ left_here) in
                  let change : last_changes active page all r.slot ≡ Some (r.tid, r.change) =
                  ap (λ (l : List Record). pending_of (last_that test l None)) so.parts
                  ∙ ap pending_of (last_here test so.done rest r None own none) in
                  ap (λ (b : Bool). if b then Some (r.tid, r.change) else pending_in now r.slot)
                  (eq-eqb r.slot r.slot refl)
                  ∙ rw none (sym change)

          pub setting_last : {next : FrameView} → next.page ≡ now.page
              → ((k : ℕ) → pending_in next k
              ≡ with_pending (pending_in now) r.slot (r.tid, r.change) k)
              → IsSetting active page all rest held later next
          setting_last kept given = record {
            done = so.done ++ r ∷ [];
            parts = further;
            coming = fewer_coming;
            set = λ slot within. given slot ∙ set_last slot within;
            same = kept ∙ so.same;
          }

          -- where the page has no room with it, it has none for all
          pub setting_full : PAGE_LEN < fill_by (values_in now)
              (with_pending (pending_in now) r.slot (r.tid, r.change))
              → IsTooFull active page all held
          setting_full over =
              subst (λ (p : Slots). PAGE_LEN < fill_by (value_in p) (last_changes active page all))
              so.same
              (let less = fewer_pending (values_in now)
              (with_pending (pending_in now) r.slot (r.tid, r.change))
              (last_changes active page all)
              (some_are_set all rest
              (with_pending (pending_in now) r.slot (r.tid, r.change)) set_last) in
              omega (arith, over, less))

-- ---- one record

module _ (active : ℕ → Bool) (page : ℕ) (r : Record) (counts : List ℕ) (now : FrameView) where
  pub set_other_page : r.page ≢ page → AreSet active page (r ∷ []) counts now counts now true
  set_other_page other = λ all rest held so.
      setting_past active page so (λ slot low. of_another_page active page r slot other)

  pub set_other_number : active r.tid ≡ false
      → AreSet active page (r ∷ []) counts now counts now true
  set_other_number other = λ all rest held so.
      setting_past active page so (λ slot low. of_no_number active page r slot other)

  module _ (low : r.slot < 64) (here : r.page ≡ page) (is : active r.tid ≡ true) where
    module _ (later : List ℕ) (long : length later ≡ 64)
        (taken : later ≡ slice_set counts r.slot (slice_index counts r.slot - 1)) where
      pub set_earlier : false ≡ (slice_index later r.slot == 0)
          → AreSet active page (r ∷ []) counts now later now true
      set_earlier more = λ all rest held so.
          setting_earlier active page so low (on_own active page r here is) long taken (sym more)

      -- the last one on its slot, where the page may have room
      pub set_the_last : true ≡ (slice_index later r.slot == 0) → (room : Bool) (next : FrameView)
          → (IsTrue room ↔ (fill_by (values_in now)
          (with_pending (pending_in now) r.slot (r.tid, r.change)) ≤ PAGE_LEN))
          → next.page ≡ now.page
          → OnTrue room ((k : ℕ) → pending_in next k
          ≡ with_pending (pending_in now) r.slot (r.tid, r.change) k)
          → AreSet active page (r ∷ []) counts now later next room
      set_the_last last true next exact kept given = λ all rest held so.
          setting_last active page so low (on_own active page r here is) long taken
          (sym last) kept given
      set_the_last last false next exact kept given = λ all rest held so.
          setting_full active page so low (on_own active page r here is) long taken
          (sym last) (over_from _ exact)
