use Rattle.std.proofs.Common.{◌≡◌, ◌<◌, arith, sym, subst}
use Rattle.number_set.specs.Flags.{Flags, has_flag}
use Rattle.number_set.proofs.FlagLemmas.{one_more}
use Rattle.number_set.proofs.flags.Flags.raise.Goals as goal

room : (it now : Flags) → it ≡ now → now.count < now.most → it.count < it.most
room it now same less = subst (λ (m : Flags). m.count < m.most) (sym same) less

pub invariant_of-self : goal.invariant_of-self
invariant_of-self c =
    let (size, most, few) = c.self.invariant in
    let more = room _ _ c.self.view_is c.requires.few in (
      omega (arith, c.set_flag.ensures.size, size),
      omega (arith, more),
      λ numbers. omega (
        arith,
        few numbers,
        one_more (has_flag c.self.inside.bytes.items)
            (has_flag c.set_flag.new.bytes.items) 0 c.args.at numbers c.set_flag.ensures.bits,
      ),
    )
