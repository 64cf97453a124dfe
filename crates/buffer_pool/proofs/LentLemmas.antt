-- A buffer after its frame or its records were lent.
use Rattle.std.proofs.Common.{◌≡◌, ℕ, set, Option, Some, IsSome, refl, sym, ap, subst}
use Rattle.std.specs.Option.{option_map}
use Rattle.slab.specs.Slab.{Slab, get, Updates}
use Rattle.slab.proofs.SlabLemmas.{Updates-set, ContainsKey-within}
use Rattle.buffer_pool.specs.declared.pool.Buffer.{Buffer}
use Rattle.buffer_pool.specs.Lending.{changed_at}

-- the buffer under the key is changed, and no other
pub changed_is : (buffers : Slab Buffer) (key : ℕ) (change : Buffer → Buffer) (was : Buffer)
    → get buffers key ≡ Some was
    → Updates buffers (changed_at buffers key change) key (Some (change was))
changed_is buffers key change was there =
    let within = ContainsKey-within buffers key (subst IsSome (sym there) refl) in
    Updates-set buffers (changed_at buffers key change) key (Some (change was)) within
    (ap (λ (o : Option Buffer). set buffers.slots key (option_map change o)) there)
