-- What calls on pages ask of the chip: one page written out, brought in, or made ready for a record.
use Rattle.std.proofs.Common.{◌≡◌, ◌≢◌, ℕ, Bool, false, [], ◌∷◌, Some, None, Result, Ok, inl, refl, sym, subst, arith}
use Rattle.std.specs.Prelude.{IsSome}
use Rattle.std.proofs.lemmas.Bool.{false≢true}
use Rattle.chip_trait.specs.Told.{Told}
use Rattle.ipl_base.specs.declared.fault.ChipFault.{ChipFault}
use Rattle.ipl_format.specs.Record.{Record}
use Rattle.place_taking.specs.Spending.{is_worn_out}
use Rattle.unit_io.specs.Costs.{Costs, Spends}
use Rattle.unit_io.proofs.CostLemmas.{costs_at_most, costs_then, spends_then, spends_weaker}
use Rattle.buffer_pool.specs.Pools.{PoolView}
use Rattle.buffer_pool.specs.Uses.{UsesPage}
use Rattle.store_laws.specs.Frames.{logs_of}
use Rattle.selective_merge.specs.declared.parts.Parts.{Parts}
use Rattle.selective_merge.specs.Moving.{tables_of}
use Rattle.selective_merge.specs.Spotting.{HasHomeSpot}
use Rattle.page_frames.specs.Changes.{MayPut}
use Rattle.page_frames.specs.Spending.{ErasesAndLogs, WritingCosts}
use Rattle.page_frames.proofs.RecordSpendLemmas.{no_kind}
use Rattle.page_frames.specs.declared.pages.Pages.{Pages}
use Rattle.page_frames.specs.Pages.{tables_in, frames_in, IsFramed}
use Rattle.page_frames.specs.Frames.{Victim, IsVictimFor}
use Rattle.page_frames.specs.Asks.{HasNoneToWrite, AsksForFrame, AsksToWriteOut, AsksToEmpty, AsksToFetch, AsksToBring, AsksToPrepare}
use Rattle.page_frames.proofs.SpendLemmas.{nothing_spent, logs_of_reads}

-- nothing is within one program
pub one_of_none : (t : Told) → Spends (Costs 0 1 0 (5 ∷ [])) t t
one_of_none t = spends_weaker (Costs 0 0 0 []) (Costs 0 1 0 (5 ∷ [])) t t
    (λ added. costs_at_most 0 0 0 1 0 0 [] (5 ∷ []) added (omega arith) (omega arith) (omega arith)
    no_kind) (nothing_spent t)

-- ---- a page's records

-- it has none
pub none_to_write : (u page : ℕ) (pages : Pages) (t : Told)
    → AsksToWriteOut u page (Ok tt) pages pages t t
none_to_write u page pages t = record {
  idle = λ none. (refl, refl, refl);
  home = λ has. (
    one_of_none t,
    inl (record {
      current = refl;
      in_use = refl;
      erases = refl;
      retired = refl;
      written = refl;
      generations = refl;
      masks = λ v i low. refl;
    }),
  );
  costs = logs_of_reads pages.parts.directory pages.parts.directory t t refl (nothing_spent t);
}

-- it has some
pub some_to_write : (u page : ℕ) (result : Result (Unit {0}) ChipFault) (old new : Pages)
    (before after : Told) → logs_of (frames_in old) u page ≢ []
    → WritingCosts result (tables_in old) (tables_in new) u before after
    → AsksToWriteOut u page result old new before after
some_to_write u page result old new before after full costs = record {
  idle = λ none. absurd (full none);
  home = costs.home;
  costs = costs.any;
}

-- ---- a frame for another page

-- where no page is to leave one, none is to be written
pub none_to_leave : (victim : Victim) (pages : Pages) → victim ≡ None → HasNoneToWrite pages victim
none_to_leave victim pages none = subst (HasNoneToWrite pages) (sym none) tt

-- no page is to leave one
pub none_leaves_asks : (pages : Pages) (t : Told) → AsksToEmpty None (Ok tt) pages pages t t
none_leaves_asks pages t = record {
  idle = λ none. (refl, refl, refl);
  home = λ has. one_of_none t;
  costs = logs_of_reads pages.parts.directory pages.parts.directory t t refl (nothing_spent t);
}

-- the records of one that is were written out
pub leaving_asks : (victim : Victim) (u page : ℕ) (result : Result (Unit {0}) ChipFault) (old new : Pages)
    (before after : Told) → victim ≡ Some (u, page) → AsksToWriteOut u page result old new before after
    → AsksToEmpty victim result old new before after
leaving_asks victim u page result old new before after is asks =
    subst (λ (v : Victim). AsksToEmpty v result old new before after) (sym is) (record {
      idle = asks.idle;
      home = λ has. (asks.home has).0;
      costs = asks.costs;
    })

-- and then sectors were read, or none
pub frame_asks : (victim : Victim) (result : Result (Unit {0}) ChipFault) (old new : Pages) (before between after : Told)
    → IsVictimFor old.pool victim → AsksToEmpty victim result old new before between
    → Spends (Costs 0 0 0 []) between after → AsksForFrame old before after
frame_asks victim result old new before between after chosen asks reads = record {
  victim = victim;
  chosen = chosen;
  idle = λ none. subst (λ (t : Told). Spends (Costs 0 0 0 []) t after) (asks.idle none).2 reads;
  home = λ has. spends_then (Costs 0 1 0 (5 ∷ [])) (Costs 0 0 0 []) (Costs 0 1 0 (5 ∷ [])) before between after
      (λ later earlier first second. costs_then 0 0 1 0 0 0 (5 ∷ []) later earlier first
      (costs_at_most 0 0 0 0 0 0 [] (5 ∷ []) later (omega arith) (omega arith) (omega arith) no_kind second))
      (asks.home has) reads;
}

-- ---- a page that is brought in

-- it is in a frame, and a use is counted
pub used_asks : (u page : ℕ) (old : Pages) (p : PoolView) (t : Told) → IsFramed old u page
    → UsesPage old.pool p u page
    → AsksToBring u page false old (record old { pool = p }) t t
used_asks u page old p t there uses = record {
  idle = λ framed. (record { parts = refl; pool = uses }, refl);
  free = λ free. nothing_spent t;
  frame = λ absent. absurd (absent there);
  costs = logs_of_reads old.parts.directory old.parts.directory t t refl (nothing_spent t);
}

-- it is in none
pub brought_asks : (u page : ℕ) (worn_out : Bool) (old new : Pages) (before after : Told)
    → ¬ IsFramed old u page → AsksToFetch worn_out old new before after
    → AsksToBring u page worn_out old new before after
brought_asks u page worn_out old new before after absent asks = record {
  idle = λ there. absurd (absent there);
  free = asks.free;
  frame = λ none. asks.frame;
  costs = asks.costs;
}

-- ---- a record

-- it fits behind those in memory, and a use is counted
pub fitting_asks : (u : ℕ) (r : Record) (old : Pages) (p : PoolView) (t : Told)
    → IsFramed old u r.page → UsesPage old.pool p u r.page → AsksToPrepare u r false old (record old { pool = p }) t t
fitting_asks u r old p t there uses = record {
  idle = λ may. (record { parts = refl; pool = uses }, refl, refl);
  free = λ none free. nothing_spent t;
  frame = λ absent. absurd (absent there);
  home = λ framed has. one_of_none t;
  costs = logs_of_reads old.parts.directory old.parts.directory t t refl (nothing_spent t);
}

-- its page is in a frame, and its records are written out once the use is counted
pub framed_asks : (u : ℕ) (r : Record) (result : Result (Unit {0}) ChipFault) (old used new : Pages)
    (before after : Told) → used.parts ≡ old.parts → ¬ MayPut (frames_in old) u r
    → IsFramed old u r.page
    → AsksToWriteOut u r.page result used new before after
    → AsksToPrepare u r (is_worn_out result) old new before after
framed_asks u r result old used new before after same full there asks = record {
  idle = λ may. absurd (full may);
  free = λ none free. absurd (false≢true (subst IsSome none there));
  frame = λ absent. absurd (absent there);
  home = λ framed has.
      (asks.home (subst (λ (p : Parts). HasHomeSpot (tables_of p) u) (sym same) has)).0;
  costs = subst (λ (p : Parts). Spends
      (ErasesAndLogs p.directory new.parts.directory (is_worn_out result)) before after) same asks.costs;
}

-- its page is in none
pub fetched_asks : (u : ℕ) (r : Record) (worn_out : Bool) (old new : Pages) (before after : Told)
    → ¬ IsFramed old u r.page → AsksToFetch worn_out old new before after
    → AsksToPrepare u r worn_out old new before after
fetched_asks u r worn_out old new before after absent asks = record {
  idle = λ may. absurd (absent (subst IsSome (sym may.there) refl));
  free = λ none. asks.free;
  frame = λ none. asks.frame;
  home = λ framed has. absurd (absent framed);
  costs = asks.costs;
}
