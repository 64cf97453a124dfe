use Rattle.std.proofs.Common.{◌<◌, ℕ, List, length, sym, subst}
use Rattle.ipl_meaning.specs.Tables.{Places}
use Rattle.unit_directory.specs.Free.{spares_of}
use Rattle.unit_directory.specs.Directory.{IsSoundDirectory}
use Rattle.unit_directory.proofs.RetiredLemmas.{retired_soundly}
use Rattle.unit_directory.proofs.directory.Directory.retire.Goals as goal

pub invariant_of-self : goal.invariant_of-self
invariant_of-self c =
    let it : Places = record {
      current = c.self.inside.current.items;
      in_use = c.self.inside.in_use.items;
      erases = c.self.inside.erases.items;
      retired = c.self.inside.retired.items;
      written = c.self.inside.written.items;
      generations = c.self.inside.generations.items;
      masks = c.self.inside.masks.items;
    } in
    let (sound, current, written, generations, masks) = c.self.invariant in (
      subst (λ (retired : List ℕ). IsSoundDirectory (record it { retired = retired }))
          (sym c.insert_place.ensures) (retired_soundly it c.args.place sound
          (subst (λ (d : Places). c.args.place < length d.in_use) (sym c.self.view_is) c.requires.place)
          (subst (λ (d : Places). length d.retired < spares_of d) (sym c.self.view_is) c.requires.few)),
      current,
      written,
      generations,
      masks,
    )
