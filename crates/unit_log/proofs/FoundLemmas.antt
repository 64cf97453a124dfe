-- Where the log sectors that are gathered come from.
use Rattle.std.proofs.Common.{◌≡◌, ◌⊎◌, ℕ, ◌==◌, ◌&&◌, nat_le, Bool, true, false, cond, List, [], ◌∷◌, Option, Some, None, inl, inr, refl, sym, ◌∙◌, ap, subst, arith}
use Rattle.std.specs.List.{Contains}
use Rattle.std.proofs.lemmas.Bool.{and_parts, eqb-true, eq-eqb, leb-true}
use Rattle.ipl_format.specs.Sector.{Sector}
use Rattle.ipl_meaning.specs.Chart.{Chart}
use Rattle.unit_io.specs.Kinds.{log_only}
use Rattle.unit_log.specs.declared.scratch.LogSector.{LogSector}
use Rattle.unit_log.specs.Kept.{held_in, kept_if, kept_at, with_kept, with_found, gathered}
use Rattle.unit_log.proofs.KeptLemmas.{contains_cons, contains_here, contains_there, with_kept_has, with_kept_keeps, with_kept_from}

module _ (c : Chart) (u g : ℕ) where
  -- a log sector stands at one of the spots
  pub record IsAtSpot (spots : List (ℕ × ℕ)) (z : LogSector) : Type 0 where
    pub spot : ℕ × ℕ
    pub has : Contains spots spot
    pub is : kept_at c u g spot.0 spot.1 ≡ Some z

  pub found_from : (o : Option LogSector) (kept : List LogSector) (z : LogSector)
      → Contains (with_found o kept) z → (o ≡ Some z) ⊎ Contains kept z
  found_from None kept z is = inr is
  found_from (Some x) kept z is =
      elim (with_kept_from x kept z is) [ inl same ↦ inl (ap Some same) | inr before ↦ inr before ]

  found_keeps : (o : Option LogSector) (kept : List LogSector) (z : LogSector) → Contains kept z
      → Contains (with_found o kept) z
  found_keeps None kept z is = is
  found_keeps (Some x) kept z is = with_kept_keeps x kept z is

  found_has : (o : Option LogSector) (kept : List LogSector) (z : LogSector) → o ≡ Some z
      → Contains (with_found o kept) z
  found_has None kept z is = absurd (cc)
  found_has (Some x) kept z is = let same : x ≡ z = cc in
      subst (Contains (with_kept x kept)) same (with_kept_has x kept)

  pub gathered_from : (spots : List (ℕ × ℕ)) (kept : List LogSector) (z : LogSector)
      → Contains (gathered c u g spots kept) z → IsAtSpot spots z ⊎ Contains kept z
  gathered_from [] kept z is = inr is
  gathered_from (spot ∷ spots) kept z is =
      elim (gathered_from spots (with_found (kept_at c u g spot.0 spot.1) kept) z is) [
        | inl later ↦
            inl (record {
              spot = later.spot;
              has = contains_there spot spots later.spot later.has;
              is =
                  later.is;
            })
        | inr before ↦ elim (found_from (kept_at c u g spot.0 spot.1) kept z before) [
          | inl this ↦ inl (record { spot = spot; has = contains_here spot spots; is = this })
          | inr old ↦ inr old
        ]
      ]

  pub gathered_keeps : (spots : List (ℕ × ℕ)) (kept : List LogSector) (z : LogSector)
      → Contains kept z → Contains (gathered c u g spots kept) z
  gathered_keeps [] kept z is = is
  gathered_keeps (spot ∷ spots) kept z is =
      gathered_keeps spots (with_found (kept_at c u g spot.0 spot.1) kept) z
      (found_keeps (kept_at c u g spot.0 spot.1) kept z is)

  pub gathered_has : (spots : List (ℕ × ℕ)) (kept : List LogSector) (p s : ℕ) (z : LogSector)
      → Contains spots (p, s) → kept_at c u g p s ≡ Some z → Contains (gathered c u g spots kept) z
  gathered_has [] kept p s z has is = absurd (let within = has.1 in omega (arith, within))
  gathered_has (spot ∷ spots) kept p s z has is = elim (contains_cons spot spots (p, s) has) [
    | inl same ↦ gathered_keeps spots (with_found (kept_at c u g spot.0 spot.1) kept) z
        (found_has (kept_at c u g spot.0 spot.1) kept z
        (ap (λ (o : ℕ × ℕ). kept_at c u g o.0 o.1) same ∙ is))
    | inr later ↦ gathered_has spots (with_found (kept_at c u g spot.0 spot.1) kept) p s z later is
  ]

  -- ---- a log sector that is kept

  pub record IsFound (p s : ℕ) (z : LogSector) : Type 0 where
    pub sector : Sector
    pub here : c p s ≡ Some sector
    pub kind : sector.kind ≡ 5
    pub unit : sector.unit ≡ u
    pub generation : sector.generation ≡ g
    pub same : z ≡ record { serial = sector.serial; payload = held_in sector }

  pub kept_says : (p s : ℕ) (z : LogSector) → kept_at c u g p s ≡ Some z → IsFound p s z
  kept_says p s z is = go (c p s) refl is
    where
      taken : (sector : Sector) → c p s ≡ Some sector → (a b : Bool)
          → nat_le 5 sector.kind && nat_le sector.kind 5 ≡ a
          → (sector.unit == u) && (sector.generation == g) ≡ b
          → kept_if u g (cond a (Some sector) None) ≡ Some z → IsFound p s z
      taken sector here false b kinds names is = absurd (cc is)
      taken sector here true false kinds names is =
          absurd (let none : None ≡ Some z =
          subst (λ (o : Bool). cond o (Some
          (record { serial = sector.serial; payload = held_in sector })) None ≡ Some z) names is in
          cc)
      taken sector here true true kinds names is =
          let both = and_parts (nat_le 5 sector.kind) (nat_le sector.kind 5) kinds in
          let least : nat_le 5 sector.kind ≡ true = both.0 in
          let most : nat_le sector.kind 5 ≡ true = both.1 in
          let (own, of) = and_parts _ _ names in
          let some : Some (record { serial = sector.serial; payload = held_in sector }) ≡ Some z =
          subst (λ (o : Bool). cond o (Some
          (record { serial = sector.serial; payload = held_in sector })) None ≡ Some z) names
          is in
          record {
            sector = sector;
            here = here;
            kind = omega (arith, leb-true 5 sector.kind least, leb-true sector.kind 5 most);
            unit = eqb-true sector.unit u own;
            generation = eqb-true sector.generation g of;
            same = let e : record { serial = sector.serial; payload = held_in sector } ≡ z = cc in
                sym e;
          }

      go : (o : Option Sector) → c p s ≡ o → kept_if u g (log_only o) ≡ Some z → IsFound p s z
      go None here is = absurd (cc is)
      go (Some sector) here is =
          taken sector here (nat_le 5 sector.kind && nat_le sector.kind 5)
          ((sector.unit == u) && (sector.generation == g)) refl refl is

  pub found_kept : (p s : ℕ) (sector : Sector) → c p s ≡ Some sector → sector.kind ≡ 5
      → sector.unit ≡ u → sector.generation ≡ g
      → kept_at c u g p s ≡ Some (record { serial = sector.serial; payload = held_in sector })
  found_kept p s sector here kind unit generation =
      ap (λ (o : Option Sector). kept_if u g (log_only o)) here ∙ there
    where
      there : kept_if u g (log_only (Some sector)) ≡ Some
          (record { serial = sector.serial; payload = held_in sector })
      there = rw (kind, eq-eqb sector.unit u unit, eq-eqb sector.generation g generation) refl
