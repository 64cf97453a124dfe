use Rattle.std.proofs.Common.{inl, inr, refl, sym, ◌∙◌, IsSome, subst}
use Rattle.std.proofs.lemmas.Bool.{false≢true}
use Rattle.std.proofs.lemmas.Result.{on_ok_weaker}
use Rattle.place_taking.specs.Spending.{is_worn_out}
use Rattle.store_laws.specs.Frames.{Frames}
use Rattle.page_frames.proofs.AskLemmas.{used_asks, brought_asks}
use Rattle.page_frames.proofs.UseLemmas.{used_upholds, used_framed, stays_for}
use Rattle.page_frames.proofs.WorkLemmas.{works_done}
use Rattle.page_frames.proofs.pages.Pages.bring.Goals as goal

pub use_page-requires-clause-there : goal.use_page-requires-clause-there
use_page-requires-clause-there g c = c.is_framed.ensures.0 c.if-is_framed.true

pub returns-then-is_framed-clause-works : goal.returns-then-is_framed-clause-works
returns-then-is_framed-clause-works g c =
    let old = c.args.self.now in
    let pool = c.use_page.new.pool in
    let told = g.C.Chip.told c.args.chip.now in
    works_done 14 old (record old { pool = pool }) told told
    (used_upholds 14 old pool told c.requires.ready c.use_page.ensures.frames c.use_page.ensures.pins)

pub returns-then-is_framed-clause-comes : goal.returns-then-is_framed-clause-comes
returns-then-is_framed-clause-comes g c =
    let there = c.is_framed.ensures.0 c.if-is_framed.true in record {
      there = subst (λ (F : Frames). IsSome (F c.args.unit c.args.page)) (sym c.use_page.ensures.frames)
          there;
      fresh = λ none. absurd (false≢true (subst IsSome none there));
      used = c.use_page.ensures.last;
    }

pub returns-then-is_framed-clause-framed : goal.returns-then-is_framed-clause-framed
returns-then-is_framed-clause-framed g c =
    let old = c.args.self.now in
    let pool = c.use_page.new.pool in
    stays_for c.args.unit c.args.page old (record old { pool = pool })
    (used_framed old pool c.use_page.ensures.frames) c.use_page.ensures.others

pub returns-then-is_framed-clause-asks : goal.returns-then-is_framed-clause-asks
returns-then-is_framed-clause-asks g c =
    used_asks c.args.unit c.args.page c.args.self.now c.use_page.new.pool
    (g.C.Chip.told c.args.chip.now) (c.is_framed.ensures.0 c.if-is_framed.true) c.use_page.ensures.uses

pub returns-clause-comes : goal.returns-clause-comes
returns-clause-comes g c =
    let is = c.fetch.ensures.comes in record {
      there = on_ok_weaker c.fetch.result (λ clean. subst IsSome (sym clean.1) refl) is.fresh;
      fresh = λ none. is.fresh;
      used = is.used;
    }

pub returns-clause-asks : goal.returns-clause-asks
returns-clause-asks g c =
    brought_asks c.args.unit c.args.page (is_worn_out c.fetch.result) c.args.self.now c.fetch.new.self
    (g.C.Chip.told c.args.chip.now) (g.C.Chip.told c.fetch.new.chip)
    (λ there. false≢true (sym c.if-is_framed.false ∙ c.is_framed.ensures.1 there))
    c.fetch.ensures.asks

pub returns-clause-exact : goal.returns-clause-exact
returns-clause-exact g c = λ room. elim room [
  | inl there ↦ absurd (false≢true (sym c.if-is_framed.false ∙ c.is_framed.ensures.1 there))
  | inr free ↦ c.fetch.ensures.exact free
]
