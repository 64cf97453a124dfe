use Rattle.std.proofs.Common.{◌≡◌, ◌<◌, max, ℕ, List, map, length, get_or, set, sym, ◌∙◌, ap, ap₂, arith}
use Rattle.std.specs.List.{refill}
use Rattle.std.proofs.lemmas.List.{length-map}
use Rattle.std.proofs.Math.ListN.{length-set}
use Rattle.ipl_base.specs.declared.name.Name.{Name}
use Rattle.record_locks.specs.Held.{Held, raised, rank_of}
use Rattle.record_locks.proofs.RankLemmas.{raised_past, raised_here, refilled, with_sizes}
use Rattle.record_locks.proofs.session.OpenSession.raise.Goals as goal

pub returns-then-rank-len : goal.returns-then-rank-len
returns-then-rank-len c =
    let h = c.args.self.now in
    let names : length h.written ≡ length c.self.inside.written.items = ap (λ (x : Held). length x.written) (sym c.self.view_is) ∙ length-map c.self.inside.written.items (λ (n : Name). n.0) in
    let rank : c.rank_of-rank.result ≡ rank_of c.args.name.0 h.written =
    c.rank_of-rank.ensures.rank ∙ ap (λ (l : List Name). rank_of c.args.name.0 (map (λ (n : Name). n.0) l)) c.as_slice.ensures.value ∙ ap (λ (x : Held). rank_of c.args.name.0 x.written) c.self.view_is in
    sym (ap (with_sizes h) (raised_past h.written h.sizes c.args.name.0 c.args.size (omega (arith, names, rank, c.if-rank-len.true, c.len.ensures.value)) c.requires))

pub returns : goal.returns
returns c =
    let h = c.args.self.now in
    let kept = c.self.inside.sizes.items in
    let names : length h.written ≡ length c.self.inside.written.items = ap (λ (x : Held). length x.written) (sym c.self.view_is) ∙ length-map c.self.inside.written.items (λ (n : Name). n.0) in
    let rank : c.rank_of-rank.result ≡ rank_of c.args.name.0 h.written =
    c.rank_of-rank.ensures.rank ∙ ap (λ (l : List Name). rank_of c.args.name.0 (map (λ (n : Name). n.0) l)) c.as_slice.ensures.value ∙ ap (λ (x : Held). rank_of c.args.name.0 x.written) c.self.view_is in
    let sizes : kept ≡ h.sizes = ap (λ (x : Held). x.sizes) c.self.view_is in
    let most : c.max-most.result ≡ max c.args.size (get_or h.sizes (rank_of c.args.name.0 h.written) 0) =
    c.max-most.ensures ∙ ap₂ (λ (l : List ℕ) (k : ℕ). max c.args.size (get_or l k 0)) (c.deref.ensures.0 ∙ sizes) rank in
    let within : rank_of c.args.name.0 h.written < length h.written = omega (arith, names, rank, c.if-rank-len.false, c.len.ensures.value) in
    let whole : refill (length kept) kept (set c.deref_mut.result.now c.rank_of-rank.result c.max-most.result) ≡ set c.deref_mut.result.now c.rank_of-rank.result c.max-most.result =
    refilled kept (set c.deref_mut.result.now c.rank_of-rank.result c.max-most.result) (length-set c.deref_mut.result.now c.rank_of-rank.result c.max-most.result ∙ ap length c.deref_mut.ensures.value) in
    let new : set c.deref_mut.result.now c.rank_of-rank.result c.max-most.result ≡ raised h.written h.sizes c.args.name.0 c.args.size =
    ap (λ (l : List ℕ). set l c.rank_of-rank.result c.max-most.result) (c.deref_mut.ensures.value ∙ sizes)
    ∙ ap₂ (λ (k m : ℕ). set h.sizes k m) rank most ∙ sym (raised_here h.written h.sizes c.args.name.0 c.args.size within c.requires) in
    ap (λ (x : Held). with_sizes x (refill (length kept) kept (set c.deref_mut.result.now c.rank_of-rank.result c.max-most.result))) c.self.view_is
    ∙ ap (with_sizes h) (whole ∙ new)
