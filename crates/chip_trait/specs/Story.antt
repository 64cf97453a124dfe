-- What a chip and its desk were asked, and what the chip holds after it. The newest event stands first, so a story grows
-- at its head, and an earlier moment of it is one of its tails.
use Rattle.std.specs.Prelude.{ℕ, List, [], ◌∷◌, ◌++◌, replicate, if◌then◌else◌, ◌==◌, ◌&&◌}
use Rattle.std.specs.List.{flat_map}
use Rattle.chip_trait.specs.declared.event.Event.{Event}
use Rattle.chip_trait.specs.declared.event.Event.TheVariants.{Read, Program, Erase, Worn, Barrier, Said}

-- the newest event first
abbrev pub Story : Type 0
Story = List Event

-- the bytes of each sector, by its place and its number there. Numbers from 256 on name no sector.
abbrev pub Contents : Type 0
Contents = ℕ → ℕ → List ℕ

-- an erased sector
unfoldable pub blank : List ℕ
blank = replicate 512 255

-- what an event makes of the contents
abbrev pub after : Event → Contents → Contents
after (Read q t) x = x
after (Program q t bytes) x = λ p s. if q == p && t == s then bytes else x p s
after (Erase q) x = λ p s. if q == p then blank else x p s
after (Worn q) x = x
after Barrier x = x
after (Said piece) x = x

-- what a chip that began with these contents holds after a story
abbrev pub held : Contents → Story → Contents
held start [] = start
held start (e ∷ story) = after e (held start story)

-- the pieces that were said, the first one first
abbrev pub pieces : Story → List (List ℕ)
pieces [] = []
pieces (Read q t ∷ story) = pieces story
pieces (Program q t bytes ∷ story) = pieces story
pieces (Erase q ∷ story) = pieces story
pieces (Worn q ∷ story) = pieces story
pieces (Barrier ∷ story) = pieces story
pieces (Said piece ∷ story) = pieces story ++ piece ∷ []

-- pieces, joined
abbrev pub joined_pieces : List (List ℕ) → List ℕ
joined_pieces all = flat_map (λ piece. piece) all

-- all that was said
abbrev pub said : Story → List ℕ
said story = joined_pieces (pieces story)
