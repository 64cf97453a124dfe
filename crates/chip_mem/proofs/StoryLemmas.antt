-- One event more.
use Rattle.std.proofs.Common.{◌≡◌, ◌+◌, ◌<◌, ℕ, zero, suc, true, List, [], ◌∷◌, ◌++◌, length, reverse, refl, sym, ◌∙◌, ap, subst, arith, take, get_or}
use Rattle.std.specs.List.{AllPass}
use Rattle.std.proofs.Math.Path.{fun_ext}
use Rattle.std.proofs.lemmas.Bool.{lt-ltb}
use Rattle.std.proofs.lemmas.List.{reverse-append, take_more}
use Rattle.std.proofs.lemmas.List.Elements.{All-append}
use Rattle.chip_trait.specs.declared.event.Event.{Event}
use Rattle.chip_trait.specs.declared.event.Event.TheVariants.{Program, Erase, Worn}
use Rattle.chip_trait.specs.Story.{Contents, after, held}
use Rattle.chip_mem.specs.Sectors.{contents_of}
use Rattle.chip_mem.specs.Story.{IsReplayed, is_inside}

-- the newest event stands first
pub reverse-push : (events : List Event) (e : Event) → reverse (events ++ e ∷ []) ≡ e ∷ reverse events
reverse-push events e = reverse-append events (e ∷ [])

-- sectors that were replayed are so after one event more
pub replayed_next : (start : List (List ℕ)) (events later : List Event) (xs ys : List (List ℕ)) (e : Event)
    → IsReplayed start events xs → later ≡ events ++ e ∷ [] → contents_of ys ≡ after e (contents_of xs) → IsReplayed start later ys
replayed_next start events later xs ys e replayed more done p s =
    let so_far : contents_of xs ≡ held (contents_of start) (reverse events) = fun_ext (λ q. fun_ext (λ t. replayed q t)) in
    ap (λ (x : Contents). x p s) done
    ∙ ap (λ (x : Contents). after e x p s) so_far
    ∙ ap (λ (story : List Event). held (contents_of start) story p s) (sym (ap reverse more ∙ reverse-push events e))

-- a chip with no events holds its start
pub replayed_at_first : (start sectors : List (List ℕ)) (events : List Event) → events ≡ [] → sectors ≡ start → IsReplayed start events sectors
replayed_at_first start sectors events none same p s = rw (none, same) refl

-- what events write stays within the chip, with one event more
pub inside_next : (places : ℕ) (events later : List Event) (e : Event)
    → AllPass (is_inside places) events → later ≡ events ++ e ∷ [] → is_inside places e ≡ true → AllPass (is_inside places) later
inside_next places events later e inside more here =
    let P : Event → Type 0 = λ x. is_inside places x ≡ true in
    subst (λ (l : List Event). AllPass (is_inside places) l) (sym more) (All-append P events (e ∷ []) inside (alone e here))
  where
    alone : (x : Event) → is_inside places x ≡ true → AllPass (is_inside places) (x ∷ [])
    alone x there zero d within = there
    alone x there (suc k) d within = absurd (omega arith)

pub program_is_inside : (places p s : ℕ) (bytes : List ℕ) → p < places → s < 256 → is_inside places (Program p s bytes) ≡ true
program_is_inside places p s bytes place sector = rw (lt-ltb p places place, lt-ltb s 256 sector) refl

pub erase_is_inside : (places p : ℕ) → p < places → is_inside places (Erase p) ≡ true
erase_is_inside places p place = lt-ltb p places place

pub worn_is_inside : (places p : ℕ) → p < places → is_inside places (Worn p) ≡ true
worn_is_inside places p place = lt-ltb p places place

-- a story of one event more
pub reverse-take_more : (events : List Event) (i : ℕ) (d : Event) → i < length events → reverse (take (i + 1) events) ≡ get_or events i d ∷ reverse (take i events)
reverse-take_more events i d within = ap reverse (take_more events i d within) ∙ reverse-push (take i events) (get_or events i d)

pub held_more : (x : Contents) (events : List Event) (i : ℕ) (d : Event) → i < length events → held x (reverse (take (i + 1) events)) ≡ after (get_or events i d) (held x (reverse (take i events)))
held_more x events i d within = ap (held x) (reverse-take_more events i d within)
