use Rattle.std.proofs.Common.{IsSome, ℕ, [], Option, inl, inr, refl, sym, ◌∙◌, ap, subst}
use Rattle.std.proofs.lemmas.Bool.{false≢true}
use Rattle.std.proofs.lemmas.Result.{err_from_is_err_and}
use Rattle.chip_trait.specs.Told.{Told}
use Rattle.ipl_meaning.specs.Tables.{Tables}
use Rattle.unit_io.specs.Costs.{Costs, Spends}
use Rattle.place_taking.specs.Spending.{is_worn_out}
use Rattle.selective_merge.specs.Known.{Suits}
use Rattle.page_ops.specs.Frames.{empty_frame}
use Rattle.buffer_pool.specs.Pools.{PoolView}
use Rattle.store_laws.specs.Frames.{Frames, logs_of}
use Rattle.store_laws.specs.Views.{frame_of}
use Rattle.page_frames.specs.Views.{frames_of}
use Rattle.page_frames.specs.declared.pages.Pages.{Pages}
use Rattle.page_frames.specs.Faulty.{FailsAsPage}
use Rattle.page_frames.specs.Filling.{with_pool}
use Rattle.page_frames.specs.Pages.{tables_in, KeepsFramed}
use Rattle.page_frames.proofs.AskLemmas.{none_to_leave, frame_asks}
use Rattle.page_frames.proofs.BringLemmas.{brings_fresh}
use Rattle.page_frames.proofs.FetchLemmas.{fetched}
use Rattle.page_frames.proofs.FramedLemmas.{brings_framed}
use Rattle.page_frames.proofs.GiveLemmas.{free_is_chosen, given_none, gives_count_no_use, left_first}
use Rattle.page_frames.proofs.HeldLemmas.{taken_log}
use Rattle.page_frames.proofs.SpendLemmas.{logs_then_reads}
use Rattle.page_frames.proofs.pages.Pages.fetch.Goals as goal

pub fill-requires : goal.fill-requires
fill-requires g c =
    let it = c.give_frame.ensures in
    let upholds = c.in_ok-empty_victim.ensures.works.upholds in record {
      suits = subst (λ (n : ℕ). Suits n (tables_in c.empty_victim.new.self))
          (sym upholds.accounts.counts.places) upholds.ready.known.suits;
      page_of = record {
        unit = rw upholds.units c.requires.page.unit;
        few = c.requires.page.few;
      };
      unheld = search;
      empty = ap (λ (F : Frames). logs_of F c.args.unit c.args.page) it.takes.frames
          ∙ taken_log (frames_of it.between) c.args.unit c.args.page (frame_of empty_frame []) refl;
    }

pub returns-clause-works : goal.returns-clause-works
returns-clause-works g c =
    let victim = c.choose_victim-victim.result in
    let mid = c.empty_victim.new.self in
    let it = c.give_frame.ensures in
    let did = c.in_ok-empty_victim.ensures in
    let all = fetched victim c.args.unit c.args.page c.args.self.now mid c.fill.new.self it.between
    c.fill.result (g.C.Chip.told c.args.chip.now) (g.C.Chip.told c.empty_victim.new.chip)
    (g.C.Chip.told c.fill.new.chip) did.works.upholds c.facts.ensures.once did.may it.gives
    (did.absent c.args.unit c.args.page c.requires.absent)
    (λ ready none. c.fill.ensures.fills it.between ready none it.takes) in
    all.works

pub returns-clause-comes : goal.returns-clause-comes
returns-clause-comes g c =
    let victim = c.choose_victim-victim.result in
    let mid = c.empty_victim.new.self in
    let it = c.give_frame.ensures in
    let did = c.in_ok-empty_victim.ensures in
    let all = fetched victim c.args.unit c.args.page c.args.self.now mid c.fill.new.self it.between
    c.fill.result (g.C.Chip.told c.args.chip.now) (g.C.Chip.told c.empty_victim.new.chip)
    (g.C.Chip.told c.fill.new.chip) did.works.upholds c.facts.ensures.once did.may it.gives
    (did.absent c.args.unit c.args.page c.requires.absent)
    (λ ready none. c.fill.ensures.fills it.between ready none it.takes) in record {
      fresh = brings_fresh c.fill.result c.args.unit c.args.page (with_pool mid it.between) c.fill.new.self
          all.fills.brings;
      used = all.fills.used;
    }

pub returns-clause-asks : goal.returns-clause-asks
returns-clause-asks g c =
    let told = g.C.Chip.told c.args.chip.now in
    let mid = g.C.Chip.told c.empty_victim.new.chip in
    let did = c.in_ok-empty_victim.ensures in record {
      free = λ free. subst (λ (t : Told). Spends (Costs 0 0 0 []) t (g.C.Chip.told c.fill.new.chip))
          (did.asks.idle (none_to_leave c.choose_victim-victim.result c.args.self.now
          (free_is_chosen c.choose_victim-victim.result c.args.self.now.pool c.choose_victim-victim.ensures free))).2 c.fill.ensures.costs;
      costs = logs_then_reads c.args.self.now.parts.directory c.empty_victim.new.self.parts.directory
          c.fill.new.self.parts.directory (is_worn_out c.fill.result) told mid
          (g.C.Chip.told c.fill.new.chip) (ap (λ (t : Tables). t.places.retired) c.fill.ensures.tables)
          c.fill.ensures.unworn did.asks.costs c.fill.ensures.costs;
      frame = frame_asks c.choose_victim-victim.result c.empty_victim.result c.args.self.now c.empty_victim.new.self
          told mid (g.C.Chip.told c.fill.new.chip) c.choose_victim-victim.ensures c.empty_victim.ensures.asks
          c.fill.ensures.costs;
    }

pub returns-clause-exact : goal.returns-clause-exact
returns-clause-exact g c =
    let victim = c.choose_victim-victim.result in
    let mid = c.empty_victim.new.self in
    let it = c.give_frame.ensures in
    let did = c.in_ok-empty_victim.ensures in
    let all = fetched victim c.args.unit c.args.page c.args.self.now mid c.fill.new.self it.between
    c.fill.result (g.C.Chip.told c.args.chip.now) (g.C.Chip.told c.empty_victim.new.chip)
    (g.C.Chip.told c.fill.new.chip) did.works.upholds c.facts.ensures.once did.may it.gives
    (did.absent c.args.unit c.args.page c.requires.absent)
    (λ ready none. c.fill.ensures.fills it.between ready none it.takes) in
    λ free.
    let same = did.asks.idle (none_to_leave victim c.args.self.now
    (free_is_chosen victim c.args.self.now.pool c.choose_victim-victim.ensures free))
    in
    subst (λ (told : Told). FailsAsPage (tables_in c.args.self.now) c.args.unit c.args.page
    c.fill.result told) same.2
    (subst (λ (pages : Pages). FailsAsPage (tables_in pages) c.args.unit c.args.page c.fill.result
    (g.C.Chip.told c.empty_victim.new.chip)) same.1 all.fills.exact)

pub returns-clause-framed : goal.returns-clause-framed
returns-clause-framed g c =
    let victim = c.choose_victim-victim.result in
    let mid = c.empty_victim.new.self in
    let it = c.give_frame.ensures in
    let did = c.in_ok-empty_victim.ensures in
    let all = fetched victim c.args.unit c.args.page c.args.self.now mid c.fill.new.self it.between
    c.fill.result (g.C.Chip.told c.args.chip.now) (g.C.Chip.told c.empty_victim.new.chip)
    (g.C.Chip.told c.fill.new.chip) did.works.upholds c.facts.ensures.once did.may it.gives
    (did.absent c.args.unit c.args.page c.requires.absent)
    (λ ready none. c.fill.ensures.fills it.between ready none it.takes) in
    let made = with_pool mid it.between in
    let keeps = brings_framed c.fill.result c.args.unit c.args.page made c.fill.new.self
    all.fills.brings in record {
      stay = λ room. elim room [
        | inl there ↦ absurd (false≢true (subst IsSome c.requires.absent there))
        | inr free ↦
            let none = free_is_chosen victim c.args.self.now.pool c.choose_victim-victim.ensures free in
            subst (λ (pages : Pages). KeepsFramed pages c.fill.new.self) (did.asks.idle (none_to_leave victim c.args.self.now none)).1
            (subst (λ (p : PoolView). KeepsFramed (with_pool mid p) c.fill.new.self)
            (given_none victim mid.pool it.between none it.gives) keeps)
      ];
      leaves = λ v q is gone. left_first victim c.args.self.now.pool mid.pool it.between v q
          c.choose_victim-victim.ensures it.gives (did.framed v q is)
          (λ there. gone (keeps v q there));
      uses = λ v q used apart now. ap (λ (uses : ℕ → ℕ → Option ℕ). uses v q) (sym did.uses)
          ∙ gives_count_no_use victim mid.pool it.between it.gives v q used
          (all.fills.others v q used apart now);
    }

pub returns-in_err-empty_victim-clause-works : goal.returns-in_err-empty_victim-clause-works
returns-in_err-empty_victim-clause-works g c =
    let e = err_from_is_err_and c.from_residual.result c.from_residual.ensures.1 in
    rw (e.1, e.2) c.in_err-empty_victim.ensures.works

pub returns-in_err-empty_victim-clause-exact : goal.returns-in_err-empty_victim-clause-exact
returns-in_err-empty_victim-clause-exact g c = λ free. absurd (false≢true
    (c.in_err-empty_victim.ensures.asks.idle (none_to_leave c.choose_victim-victim.result c.args.self.now
    (free_is_chosen c.choose_victim-victim.result c.args.self.now.pool c.choose_victim-victim.ensures free))).0)

pub returns-in_err-empty_victim-clause-framed : goal.returns-in_err-empty_victim-clause-framed
returns-in_err-empty_victim-clause-framed g c =
    let did = c.in_err-empty_victim.ensures in record {
      stay = λ room. did.framed;
      leaves = λ v q is gone. absurd (gone (did.framed v q is));
      uses = λ v q used apart now.
          ap (λ (uses : ℕ → ℕ → Option ℕ). uses v q) (sym did.uses) ∙ now;
    }
