use Rattle.std.proofs.Common.{refl}
use Rattle.log_records.specs.View.{record_of}
use Rattle.selective_merge.proofs.CarryLemmas.{fitted, overfull}
use Rattle.selective_merge.proofs.RecordTestLemmas.{over_from, on_true_by, never_false, fits_alone, begun_by}
use Rattle.selective_merge.proofs.packs.Packs.add.Goals as goal

pub returns-then-put-clause-adds : goal.returns-then-put-clause-adds
returns-then-put-clause-adds c = λ full spelled.
    rw c.if-put.ensures.added (fitted c.args.self.now.closed.items full
    (record_of c.args.logged.now) c.args.self.now.last spelled c.requires
    (c.if-put.ensures.fits.0 refl))

pub returns-then-not-close-clause-full : goal.returns-then-not-close-clause-full
returns-then-not-close-clause-full c = λ full rest spelled.
    overfull c.args.self.now.closed.items full rest (record_of c.args.logged.now)
    c.args.self.now.last spelled c.requires (over_from _ c.if-put.ensures.fits.1)
    c.if-not-close.ensures.full

pub returns-clause-adds : goal.returns-clause-adds
returns-clause-adds c = λ full spelled.
    on_true_by c.put-2.result _ _ (λ put. begun_by c.args.self.now.closed.items _ full
    (record_of c.args.logged.now) c.args.self.now.last _ _ _ spelled c.requires
    (over_from _ c.if-put.ensures.fits.1) c.if-put.ensures.full c.if-not-close.ensures.closed
    c.if-not-close.ensures.last put)
    c.put-2.ensures.added

pub returns-clause-full : goal.returns-clause-full
returns-clause-full c = λ full rest spelled.
    never_false c.put-2.result _
    (c.put-2.ensures.fits.1 (fits_alone _ (record_of c.args.logged.now)
    c.if-not-close.ensures.last c.requires))
