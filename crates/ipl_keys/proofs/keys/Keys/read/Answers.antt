use Rattle.std.proofs.Common.{Ok, Err, refl, subst}
use Rattle.std.proofs.lemmas.Bool.{false≢true}
use Rattle.ipl_store.specs.Calls.{get_fault}
use Rattle.ipl_store.proofs.CallLemmas.{calls_as, calls_fail_as}
use Rattle.ipl_keys.specs.Bucket.{IsBucketText}
use Rattle.ipl_keys.proofs.ReadLemmas.{done_hands, read_calls}
use Rattle.ipl_keys.proofs.keys.Keys.read.Goals as goal

pub returns-in-Err : goal.returns-in-Err
returns-in-Err g c =
    let store = c.args.self.now.store in
    let told = g.C.Chip.told c.args.chip.now in record {
      calls = read_calls c.args.s c.args.n store c.see.new.self.store told (g.C.Chip.told c.see.new.chip)
          (Err c.in-Err.fault) _ _ c.requires.entry c.requires.name
          (calls_fail_as (get_fault store c.args.s c.args.n) (λ state. state) 14 store told
          c.in-Err.fault c.see.new.self.store (g.C.Chip.told c.see.new.chip) c.in-Err.ensures.calls)
          (λ fault is. cc is) (λ did. did);
      bucket = tt;
      most = tt;
    }

pub returns-then-not-is_bucket : goal.returns-then-not-is_bucket
returns-then-not-is_bucket g c =
    let store = c.args.self.now.store in
    let told = g.C.Chip.told c.args.chip.now in
    let sees = c.in-Ok.ensures.seen in record {
      calls = read_calls c.args.s c.args.n store c.see.new.self.store told (g.C.Chip.told c.see.new.chip)
          (Ok tt) _ _ c.requires.entry c.requires.name
          (calls_as (get_fault store c.args.s c.args.n) (λ state. state) 14 store told
          c.in-Ok.len tt c.see.new.self.store (g.C.Chip.told c.see.new.chip) c.in-Ok.ensures.calls)
          (done_hands _) (λ did. (
            refl,
            record {
              reads = sees.reads;
              found = sees.found;
              seen = sees.seen;
              is = λ text. false≢true (c.if-not-is_bucket.ensures.1 (subst IsBucketText sees.is text));
            },
            did,
          ));
      bucket = tt;
      most = tt;
    }

pub returns : goal.returns
returns g c =
    let store = c.args.self.now.store in
    let told = g.C.Chip.told c.args.chip.now in record {
      calls = read_calls c.args.s c.args.n store c.see.new.self.store told (g.C.Chip.told c.see.new.chip)
          (Ok tt) _ _ c.requires.entry c.requires.name
          (calls_as (get_fault store c.args.s c.args.n) (λ state. state) 14 store told
          c.in-Ok.len tt c.see.new.self.store (g.C.Chip.told c.see.new.chip) c.in-Ok.ensures.calls)
          (done_hands _) (λ did. (
            c.in-Ok.ensures.seen,
            c.if-not-is_bucket.ensures.0 refl,
            did,
          ));
      bucket = c.if-not-is_bucket.ensures.0 refl;
      most = c.in-Ok.ensures.most;
    }
