-- What finding room and writing a log sector cost.
use Rattle.std.proofs.Common.{◌≡◌, ◌<◌, ◌-◌, ◌+◌, ℕ, Bool, false, List, length, slice_index, slice_index_or, slice_set, [], ◌∷◌, Result, Ok, Err, inl, inr, refl, sym, ◌∙◌, ap, subst, arith}
use Rattle.std.specs.List.{Contains}
use Rattle.std.proofs.lemmas.Bool.{cases_eq, cases_lt}
use Rattle.std.proofs.lemmas.List.{get_or-set_same, get_or-set_other, set_past}
use Rattle.chip_trait.specs.Told.{Told}
use Rattle.ipl_base.specs.declared.fault.ChipFault.{ChipFault}
use Rattle.ipl_meaning.specs.Tables.{Places, Tables, first_log, masks_in, with_mask, with_written}
use Rattle.unit_io.specs.Costs.{Costs, ProgramsAt, Spends}
use Rattle.unit_io.specs.ReadsAt.{ReadsAt}
use Rattle.unit_io.proofs.CostLemmas.{costs_at_most, costs_then, programs_at_cost, spends_reads, spends_then, spends_weaker}
use Rattle.place_taking.specs.Spending.{ErasesFree, is_worn_out, tells_worn}
use Rattle.place_taking.proofs.SpendingLemmas.{retiring_of, retiring_then, retiring_at_most, retires_still, tries_still}
use Rattle.selective_merge.specs.Spotting.{HasHomeSpot}
use Rattle.page_frames.specs.Spending.{ErasesAndLogs, KeepsMasks, UsesHome, RoomCosts, WritingCosts}
use Rattle.page_frames.specs.Writing.{IsAfterLog}

-- ---- the log sector

-- no kind is listed
pub no_kind : (kind : ℕ) → Contains [] kind
    → Contains (5 ∷ []) kind
no_kind kind has = absurd (omega (arith, has.1))

-- it wasn't written
pub frees_alone : (before after : Places) (worn_out : Bool) (old new : Told)
    → Spends (ErasesFree before after 3 worn_out) old new
    → Spends (ErasesAndLogs before after worn_out) old new
frees_alone before after worn_out old new =
    spends_weaker (ErasesFree before after 3 worn_out) (ErasesAndLogs before after worn_out) old new
    (λ added does. record {
      costs = retiring_at_most before after 1 1 0 1 3 3 [] (5 ∷ []) added (omega arith) (omega arith)
          (omega arith) no_kind does.costs;
      tries = does.tries;
      retires = does.retires;
    })

-- it was written behind
pub frees_then_logs : (before mid after : Places) (worn_out : Bool) (place : ℕ) (old between new : Told)
    → after.retired ≡ mid.retired → worn_out ≡ false
    → Spends (ErasesFree before mid 3 false) old between → Spends (ProgramsAt place 1 0 5) between new
    → Spends (ErasesAndLogs before after worn_out) old new
frees_then_logs before mid after worn_out place old between new same still =
    spends_then (ErasesFree before mid 3 false) (ProgramsAt place 1 0 5)
    (ErasesAndLogs before after worn_out) old between new (λ later earlier does programs.
    let costs = programs_at_cost place 1 0 5 later programs in record {
      costs = retiring_then before mid after 1 0 0 1 3 0 (5 ∷ []) later earlier
          (retiring_at_most before mid 1 1 0 0 3 3 [] (5 ∷ []) earlier (omega arith) (omega arith)
          (omega arith) no_kind does.costs) (retiring_of mid after 0 1 0 (5 ∷ []) later same costs);
      tries = tries_still before mid after later earlier costs.erased same does.tries;
      retires = retires_still before mid after worn_out later earlier costs.erased same still
          does.retires;
    })

-- ---- room, and whether the unit's home has some

-- by what the call says that makes it
pub room_costs : (Never : ℕ → ℕ → Type 0) (worn_out : Bool) (t after : Tables) (u : ℕ)
    (old new : Told) → (HasHomeSpot t u → (after ≡ t) × ReadsAt Never old new)
    → Spends (ErasesFree t.places after.places 3 worn_out) old new
    → RoomCosts worn_out t after u old new
room_costs Never worn_out t after u old new home costs = record {
  home = λ has. let (same, read) = home has in (same, spends_reads Never [] old new read);
  any = costs;
}

-- ---- the log sector, and whether it goes home

-- a list that is set behind a place has there what it had
set_behind : (l : List ℕ) (k i a : ℕ) → i < k → slice_index (slice_set l k a) i ≡ slice_index l i
set_behind l k i a low = get_or-set_other l k i a 0 (λ same. absurd (omega (arith, low, same)))

-- the masks of the unit, with another one behind those that counted
own_masks : (it : Places) (u k i mask : ℕ) → i < k
    → slice_index (slice_index_or (slice_set it.masks u (slice_set (masks_in it u) k mask)) u []) i
    ≡ slice_index (masks_in it u) i
own_masks it u k i mask low = elim (cases_lt u (length it.masks)) [
  | inl within ↦ ap (λ (l : List ℕ). slice_index l i)
      (get_or-set_same it.masks u (slice_set (masks_in it u) k mask) [] within)
      ∙ set_behind (masks_in it u) k i mask low
  | inr past ↦ ap (λ (l : List (List ℕ)). slice_index (slice_index_or l u []) i)
      (set_past it.masks u (slice_set (masks_in it u) k mask) past)
]

-- the first log sector that didn't count gets a mask, and the others keep theirs
masks_kept : (it : Places) (u s mask : ℕ) → s ≡ 241 + slice_index it.written u
    → KeepsMasks it (with_mask (with_written it u) u s mask)
masks_kept it u s mask first v i low = elim (cases_eq v u) [
  | inl same ↦ subst (λ (w : ℕ). slice_index (masks_in (with_mask (with_written it u) u s mask) w) i
      ≡ slice_index (masks_in it w) i) (sym same) (own_masks it u (s - 241) i mask
      (subst (λ (w : ℕ). i < slice_index it.written w → i < s - 241) (sym same)
      (λ few. omega (arith, first, few)) low))
  | inr other ↦ ap (λ (l : List ℕ). slice_index l i)
      (get_or-set_other it.masks u v (slice_set (masks_in it u) (s - 241) mask) [] other)
]

-- what counts as written then
pub log_uses : (t after : Tables) (u p s mask next : ℕ) → IsAfterLog t after u p s mask next
    → UsesHome (Ok tt) t.places after.places u
log_uses t after u p s mask next (inl (home, is)) = inr (record {
  current = ap (λ (x : Tables). x.places.current) is;
  in_use = ap (λ (x : Tables). x.places.in_use) is;
  erases = ap (λ (x : Tables). x.places.erases) is;
  retired = ap (λ (x : Tables). x.places.retired) is;
  written = ap (λ (x : Tables). x.places.written) is;
  generations = ap (λ (x : Tables). x.places.generations) is;
  masks = subst (λ (x : Tables). KeepsMasks t.places x.places) (sym is)
      (masks_kept t.places u (first_log t u) mask refl);
})
log_uses t after u p s mask next (inr (over, is)) = inl (record {
  current = ap (λ (x : Tables). x.places.current) is;
  in_use = ap (λ (x : Tables). x.places.in_use) is;
  erases = ap (λ (x : Tables). x.places.erases) is;
  retired = ap (λ (x : Tables). x.places.retired) is;
  written = ap (λ (x : Tables). x.places.written) is;
  generations = ap (λ (x : Tables). x.places.generations) is;
  masks = subst (λ (x : Tables). KeepsMasks t.places x.places) (sym is) (λ v i low. refl);
})

-- no place was retired behind the room
uses_retired : (result : Result (Unit {0}) ChipFault) (before after : Places) (u : ℕ)
    → UsesHome result before after u → after.retired ≡ before.retired
uses_retired (Ok v) before after u (inl alike) = alike.retired
uses_retired (Ok v) before after u (inr alike) = alike.retired
uses_retired (Err e) before after u same = ap (λ (it : Places). it.retired) same

-- no room was found
pub unplaced_costs : (e : ChipFault) (t after : Tables) (u : ℕ) (old new : Told)
    → RoomCosts (tells_worn e) t after u old new → WritingCosts (Err e) t after u old new
unplaced_costs e t after u old new did = record {
  home = λ has.
      let (same, reads) = did.home has in (
        spends_weaker (Costs 0 0 0 []) (Costs 0 1 0 (5 ∷ [])) old new
            (λ added. costs_at_most 0 0 0 1 0 0 [] (5 ∷ []) added (omega arith) (omega arith) (omega arith)
            no_kind) reads,
        ap (λ (x : Tables). x.places) same,
      );
  any = frees_alone t.places after.places (tells_worn e) old new did.any;
}

-- there was room, and the sector was written, or not
pub placed_costs : (result : Result (Unit {0}) ChipFault) (t between after : Tables)
    (u place : ℕ) (old mid new : Told) → is_worn_out result ≡ false
    → RoomCosts false t between u old mid
    → Spends (ProgramsAt place 1 0 5) mid new → UsesHome result between.places after.places u
    → WritingCosts result t after u old new
placed_costs result t between after u place old mid new still did programs uses = record {
  home = λ has.
      let (same, reads) = did.home has in (
        spends_then (Costs 0 0 0 []) (ProgramsAt place 1 0 5) (Costs 0 1 0 (5 ∷ [])) old mid new
            (λ later earlier read wrote. costs_then 0 0 0 1 0 0 (5 ∷ []) later earlier
            (costs_at_most 0 0 0 0 0 0 [] (5 ∷ []) earlier (omega arith) (omega arith) (omega arith)
            no_kind read) (programs_at_cost place 1 0 5 later wrote)) reads programs,
        subst (λ (x : Tables). UsesHome result x.places after.places u) same uses,
      );
  any = frees_then_logs t.places between.places after.places (is_worn_out result) place old mid new
      (uses_retired result between.places after.places u uses) still did.any programs;
}
