-- Uses of pages in frames, and which page leaves its frame.
use Rattle.std.proofs.Common.{◌≡◌, ℕ, true, None, Result, Ok, Err, OnOk, inl, inr, refl, sym, ◌∙◌, ap, subst, arith}
use Rattle.std.specs.Prelude.{IsSome}
use Rattle.chip_trait.specs.Told.{Told}
use Rattle.chip_trait.proofs.CountsLemmas.{counts_none}
use Rattle.ipl_base.specs.declared.fault.ChipFault.{ChipFault}
use Rattle.buffer_pool.specs.Pools.{PoolView}
use Rattle.buffer_pool.specs.Holding.{IsSamePage, KeepsPins}
use Rattle.buffer_pool.specs.Uses.{used_of, CountsNoOther, IsUsedLast}
use Rattle.buffer_pool.proofs.HoldingLemmas.{rest_stays}
use Rattle.buffer_pool.proofs.UseLemmas.{kept_uses_are_last}
use Rattle.store_laws.specs.Frames.{Frames, with_frame_at}
use Rattle.store_laws.proofs.MemoryLemmas.{cases_page}
use Rattle.store_laws.proofs.SameLemmas.{frame_other}
use Rattle.unit_io.proofs.TablesLemmas.{tables_none}
use Rattle.place_taking.proofs.WearLemmas.{alike_tables, nothing_wears}
use Rattle.store_laws.specs.Advances.{KeepsState}
use Rattle.store_laws.proofs.KeeperLemmas.{nothing_keeps_states}
use Rattle.page_frames.specs.Views.{frames_of}
use Rattle.page_frames.specs.declared.pages.Pages.{Pages}
use Rattle.page_frames.specs.Pages.{tables_in, frames_in, KeepsFramed, KeepsFramedFor, ArePagesReady, Upholds}

-- ---- a use that is counted

-- it keeps each state
pub used_upholds : (most : ℕ) (old : Pages) (p : PoolView) (t : Told) → ArePagesReady t.places old
    → frames_of p ≡ frames_in old → KeepsPins old.pool p
    → Upholds {T = Unit {0}} most old t (Ok tt) (record old { pool = p }) t
used_upholds most old p t ready same pins = record {
  keeps = subst (λ (F : Frames). KeepsState {T = Unit {0}} {E = ChipFault} (tables_in old)
      (frames_in old) t (Ok tt) (tables_in old) F t) (sym same)
      (nothing_keeps_states (tables_in old) (frames_in old) t);
  tidy = tables_none {T = Unit {0}} {E = ChipFault} (tables_in old) (Ok tt) t;
  wears = nothing_wears (tables_in old) (tables_in old) true t
      (alike_tables (tables_in old) (tables_in old) refl refl);
  ready = record {
    known = ready.known;
    within = λ v q f found. ready.within v q f (ap (λ (F : Frames). F v q) (sym same) ∙ found);
    rest = rest_stays old.pool p pins ready.rest;
  };
  units = refl;
  room = refl;
  active = refl;
  pins = pins;
  least = omega arith;
  drawn = omega arith;
  accounts = record { counts = counts_none t; cause = tt };
}

-- and all frames
pub used_framed : (old : Pages) (p : PoolView) → frames_of p ≡ frames_in old
    → KeepsFramed old (record old { pool = p })
used_framed old p same v q is = subst (λ (F : Frames). IsSome (F v q)) (sym same) is

-- the page used last still is after a call that counts no use
pub used_after : (result : Result (Unit {0}) ChipFault) (old new : PoolView) (u page : ℕ)
    → used_of new ≡ used_of old → IsUsedLast old u page → OnOk result (IsUsedLast new u page)
used_after (Ok v) old new u page same is = kept_uses_are_last old new u page same is
used_after (Err e) old new u page same is = tt

-- ---- pages that leave

-- none does
pub stays_for : (u page : ℕ) (old new : Pages) → KeepsFramed old new
    → CountsNoOther u page old.pool new.pool → KeepsFramedFor u page old new
stays_for u page old new keeps uses = record {
  stay = λ room. keeps;
  leaves = λ v q is gone. absurd (gone (keeps v q is));
  uses = uses;
}

-- where nothing is done
pub none_leaves : (u page : ℕ) (pages : Pages) → KeepsFramedFor u page pages pages
none_leaves u page pages = stays_for u page pages pages (λ v q is. is) (λ v q used apart is. is)

-- after a call none does
pub framed_then : (u page : ℕ) (old mid new : Pages) → KeepsFramedFor u page old mid
    → KeepsFramed mid new → CountsNoOther u page mid.pool new.pool → KeepsFramedFor u page old new
framed_then u page old mid new first keeps uses = record {
  stay = λ room v q is. keeps v q (first.stay room v q is);
  leaves = λ v q is gone. first.leaves v q is (λ there. gone (keeps v q there));
  uses = λ v q used apart is. first.uses v q used apart (uses v q used apart is);
}

-- one whose frame is freed, and no other
pub freed_page : (frames last : Frames) (u page v q : ℕ) → last ≡ with_frame_at frames u page None
    → IsSome (frames v q) → (IsSome (last v q) → ⊥) → IsSamePage u page v q
freed_page frames last u page v q is there gone = elim (cases_page u page v q) [
  | inl here ↦ (here.0, here.1)
  | inr apart ↦
      let same = ap (λ (F : Frames). F v q) is ∙ frame_other frames u page None v q apart in
      absurd (gone (subst IsSome (sym same) there))
]
