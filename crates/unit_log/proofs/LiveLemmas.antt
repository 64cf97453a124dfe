-- The log sectors that are gathered by the tables are the unit's log.
use Rattle.std.proofs.Common.{◌≡◌, ℕ, ◌<◌, ◌≤◌, ◌-◌, ◌==◌, true, List, [], ◌∷◌, length, map, get_or, slice_index, Option, Some, None, inl, inr, refl, sym, ◌∙◌, ap, ap₂, subst, arith}
use Rattle.std.specs.List.{Contains, AllPairs}
use Rattle.std.proofs.lemmas.Bool.{cases_lt, cases_eq, eqb-true, or_cases}
use Rattle.std.proofs.lemmas.List.{get_or_default}
use Rattle.std.proofs.lemmas.List.Elements.{All-contains, Contains-append_cases, Contains-append_left, Contains-append_right}
use Rattle.ipl_format.specs.Record.{IsLogPayload}
use Rattle.ipl_format.specs.Sector.{Sector}
use Rattle.ipl_meaning.specs.Chart.{Chart, IsLive as IsLiveSector, IsOverflow}
use Rattle.ipl_meaning.specs.Layout.{Entry, Layout, IsEntry, IsUnit, IsBelow}
use Rattle.ipl_meaning.specs.Tables.{Tables, clean_from, spots_of}
use Rattle.ipl_meaning.specs.Mirrors.{Mirrors}
use Rattle.unit_log.specs.declared.scratch.LogSector.{LogSector}
use Rattle.unit_log.specs.Kept.{held_in, kept_of, kept_at, with_found, gathered, has_serial, CannotBeKept, HasUnfit, HaveRisingSerials}
use Rattle.unit_log.specs.Live.{spots_from, log_spots}
use Rattle.unit_log.proofs.KeptLemmas.{contains_here, contains_there, lists_same}
use Rattle.unit_log.proofs.FoundLemmas.{IsFound, gathered_from, gathered_has, found_from, found_kept, kept_says}
use Rattle.unit_log.proofs.SpotLemmas.{Apart, spots_has, spots_are, map_has, map_from, map_rises, home_apart, pairs_apart, apart_append, pair_same}

pub serial_has : (serial : ℕ) (kept : List LogSector) → has_serial serial kept ≡ true
    → (z : LogSector) × Contains kept z × (z.serial ≡ serial)
serial_has serial [] told = absurd (cc told)
serial_has serial (x ∷ kept) told =
    elim (or_cases (x.serial == serial) (has_serial serial kept) told) [
      | inl this ↦ (x, contains_here x kept, eqb-true x.serial serial this)
      | inr later ↦ let (z, has, is) = serial_has serial kept later in
          (z, contains_there x kept z has, is)
    ]

-- what is kept of an entry whose sector was found
same_kept : (e : Entry) (sector : Sector) (z : LogSector) → e.sector ≡ sector
    → z ≡ record { serial = sector.serial; payload = held_in sector } → kept_of e ≡ z
same_kept e sector z is same =
    ap (λ (x : Sector). record { serial = x.serial; payload = held_in x }) is ∙ sym same

-- two entries with one serial are one
pub one_entry : (log : List Entry) (e f : Entry) → AllPairs IsBelow log → Contains log e
    → Contains log f → e.sector.serial ≡ f.sector.serial → e ≡ f
one_entry log e f rise (i, in_i, is) (j, in_j, also) same = elim (cases_eq i j) [
  | inl equal ↦ sym is ∙ get_or_default log i e f in_i ∙ ap (λ (k : ℕ). get_or log k f) equal ∙ also
  | inr other ↦ absurd (elim (cases_lt i j) [
    | inl less ↦ differ i j less in_j (sym (get_or_default log i e f in_i) ∙ is) also same
    | inr more ↦
        differ_back j i (omega (arith, more, other)) in_i also (sym (get_or_default log i e f in_i)
        ∙ is) same
  ])
]
  where
    differ : (i j : ℕ) → i < j → j < length log → get_or log i f ≡ e → get_or log j f ≡ f
        → e.sector.serial ≡ f.sector.serial → ⊥
    differ i j less within at_i at_j same = let below : e.sector.serial < f.sector.serial =
        rw (at_i, at_j) at (rise i j f less within) in omega (arith, below, same)

    differ_back : (j i : ℕ) → j < i → i < length log → get_or log j f ≡ f → get_or log i f ≡ e
        → e.sector.serial ≡ f.sector.serial → ⊥
    differ_back j i less within at_j at_i same = let below : f.sector.serial < e.sector.serial =
        rw (at_j, at_i) at (rise j i f less within) in omega (arith, below, same)

module _ (places : ℕ) (c : Chart) (it : Layout) (t : Tables) (u end : ℕ)
    (mirrors : Mirrors places c it t) (low : u < it.count)
    (clean_then : (s : ℕ) → end ≤ s → s < 256 → clean_from t u ≤ s) (most : end ≤ 256) where
  abbrev g : ℕ
  g = (it.units u).head.generation

  -- the spots of its log in its place, and all of them
  abbrev own_spots : List (ℕ × ℕ)
  own_spots = spots_from (slice_index t.places.current u) 241 (end - 241)

  abbrev spots : List (ℕ × ℕ)
  spots = log_spots (slice_index t.places.current u) end (spots_of t u)

  home_is : slice_index t.places.current u ≡ (it.units u).home
  home_is = mirrors.directory.current u low

  unit_there : IsUnit c places it.count u (it.units u)
  unit_there = mirrors.laid.each u low

  -- a live sector stands at one of the spots
  in_spots : (p s : ℕ) (sector : Sector) → IsLiveSector c places u (it.units u).home g p s sector
      → Contains spots (p, s)
  in_spots p s sector live = elim live.counts [
    | inl (at, high) ↦ elim (cases_lt s end) [
      | inl less ↦
          Contains-append_left own_spots (spots_of t u) (p, s)
          (subst (λ (z : ℕ). Contains own_spots (z, s)) (home_is ∙ sym at)
          (subst (λ (z : ℕ). Contains own_spots (slice_index t.places.current u, z))
          (omega (arith, high))
          (spots_has (slice_index t.places.current u) 241 (end - 241) (s - 241)
          (omega (arith, high, less)))))
      | inr clean ↦ absurd (
          let none : c p s ≡ None =
          mirrors.counted_clean p s (
            live.within.1,
            inl (
              u,
              omega (arith, low, mirrors.directory.units),
              at ∙ sym home_is,
              clean_then s clean live.within.1,
            ),
          ) in
          let e : Some sector ≡ None = sym live.here ∙ none in cc)
    ]
    | inr (over, least) ↦
        Contains-append_right own_spots (spots_of t u) (p, s)
        (mirrors.overflow.listed u p s sector low live (λ same. not_home same over))
  ]
    where
      not_home : p ≡ (it.units u).home → IsOverflow c p → ⊥
      not_home same (head, here, three) =
          let one : (it.units u).head.kind ≡ 1 = unit_there.chosen.fits.0 in
          let both : Some head ≡ Some (it.units u).head =
          sym here ∙ ap (λ (z : ℕ). c z 0) same ∙ unit_there.chosen.here in
          let kinds : head.kind ≡ (it.units u).head.kind = cc in omega (arith, one, three, kinds)

  -- what stands at one of the spots and is kept is live
  live_at : (p s : ℕ) (z : LogSector) → Contains spots (p, s) → (found : IsFound c u g p s z)
      → IsLiveSector c places u (it.units u).home g p s found.sector
  live_at p s z has found =
      elim (Contains-append_cases own_spots (spots_of t u) (p, s) has) [
        | inl at_home ↦
            let (place, least, less) =
            spots_are (slice_index t.places.current u) 241 (end - 241) p s at_home in record {
              here = found.here;
              kind = found.kind;
              of_unit = found.unit;
              of_generation = found.generation;
              within = (
                omega (arith, unit_there.chosen.within, place, home_is),
                omega (arith, less, most, least),
              );
              counts = inl (place ∙ home_is, least);
            }
        | inr listed ↦
            let only = mirrors.overflow.only u p s low listed in
            let same : Some only.1 ≡ Some found.sector = sym only.2.here ∙ found.here in
            let it_is : only.1 ≡ found.sector = cc in
            subst (λ (x : Sector). IsLiveSector c places u (it.units u).home g p s x) it_is only.2
      ]

  -- what stands at a spot and is kept is an entry of the log
  entry_at : (p s : ℕ) (z : LogSector) → Contains spots (p, s) → kept_at c u g p s ≡ Some z
      → (e : Entry) × Contains (it.units u).log e × (e.place ≡ p) × (e.number ≡ s) × (kept_of e ≡ z)
  entry_at p s z has is =
      let found = kept_says c u g p s z is in
      let live = live_at p s z has found in
      let (e, listed, place, number) = unit_there.log.all p s found.sector live in
      let entry = All-contains (IsEntry c places u (it.units u).home g) (it.units u).log e
      unit_there.log.each listed in
      let both : Some e.sector ≡ Some found.sector =
      sym entry.live.here ∙ ap₂ c place number ∙ found.here in
      let sector : e.sector ≡ found.sector = cc in
      (e, listed, place, number, same_kept e found.sector z sector found.same)

  log_there : (z : LogSector) → Contains (gathered c u g spots []) z
      → Contains (map kept_of (it.units u).log) z
  log_there z has = elim (gathered_from c u g spots [] z has) [
    | inr none ↦ absurd (let within = none.1 in omega (arith, within))
    | inl at ↦
        let (e, listed, place, number, same) = entry_at at.spot.0 at.spot.1 z at.has at.is in
        subst (Contains (map kept_of (it.units u).log)) same (map_has (it.units u).log e listed)
  ]

  log_back : (z : LogSector) → Contains (map kept_of (it.units u).log) z
      → Contains (gathered c u g spots []) z
  log_back z has =
      let (e, listed, same) = map_from (it.units u).log z has in
      let live =
      (All-contains (IsEntry c places u (it.units u).home g)
      (it.units u).log e unit_there.log.each listed).live in
      gathered_has c u g spots [] e.place e.number z (in_spots e.place e.number e.sector live)
      (found_kept c u g e.place e.number e.sector live.here live.kind live.of_unit
      live.of_generation ∙ ap Some same)

  pub log_gathered : HaveRisingSerials (gathered c u g spots [])
      → gathered c u g spots [] ≡ map kept_of (it.units u).log
  log_gathered rise =
      lists_same (gathered c u g spots []) (map kept_of (it.units u).log) rise
      (map_rises (it.units u).log unit_there.log.rising) log_there log_back

  -- ---- none of them is unfit

  -- where those that are kept come from
  pub record ComesFrom (rest : List (ℕ × ℕ)) (z : LogSector) : Type 0 where
    pub spot : ℕ × ℕ
    pub has : Contains spots spot
    pub done : Contains rest spot → ⊥
    pub is : kept_at c u g spot.0 spot.1 ≡ Some z

  unfit_here : (spot : ℕ × ℕ) (rest : List (ℕ × ℕ)) (kept : List LogSector) → Contains spots spot
      → ((z : LogSector) → Contains kept z → ComesFrom (spot ∷ rest) z)
      → (o : Option LogSector) → kept_at c u g spot.0 spot.1 ≡ o → CannotBeKept o kept → ⊥
  unfit_here spot rest kept has from None is unfit = unfit
  unfit_here spot rest kept has from (Some x) is (inr bad) =
      let (e, listed, place, number, same) = entry_at spot.0 spot.1 x has is in
      let entry =
      All-contains (IsEntry c places u (it.units u).home g)
      (it.units u).log e unit_there.log.each listed in
      bad (subst (λ (z : LogSector). IsLogPayload z.payload.version z.payload.bytes) same (e.records, entry.records))
  unfit_here spot rest kept has from (Some x) is (inl twice) =
      let (z, there, serial) = serial_has x.serial kept twice in
      let other = from z there in
      let (e, listed, place, number, same) = entry_at spot.0 spot.1 x has is in
      let (f, also, its_place, its_number, same_too) =
      entry_at other.spot.0 other.spot.1 z other.has other.is in
      let serials : f.sector.serial ≡ e.sector.serial = ap (λ (k : LogSector). k.serial) same_too
      ∙ serial ∙ sym (ap (λ (k : LogSector). k.serial) same) in
      let one : f ≡ e = one_entry (it.units u).log f e unit_there.log.rising also listed serials in
      let spots_same : spot ≡ other.spot =
      pair_same spot other.spot (sym place ∙ sym (ap (λ (k : Entry). k.place) one) ∙ its_place)
      (sym number ∙ sym (ap (λ (k : Entry). k.number) one) ∙ its_number) in
      other.done (subst (Contains (spot ∷ rest)) spots_same (contains_here spot rest))

  no_unfit : (rest : List (ℕ × ℕ)) (kept : List LogSector) → Apart rest
      → ((spot : ℕ × ℕ) → Contains rest spot → Contains spots spot)
      → ((z : LogSector) → Contains kept z → ComesFrom rest z) → HasUnfit c u g rest kept → ⊥
  no_unfit [] kept apart sub from none = none
  no_unfit (spot ∷ rest) kept apart sub from (inl unfit) =
      unfit_here spot rest kept (sub spot (contains_here spot rest)) from
      (kept_at c u g spot.0 spot.1) refl unfit
  no_unfit (spot ∷ rest) kept apart sub from (inr later) =
      no_unfit rest (with_found (kept_at c u g spot.0 spot.1) kept) apart.1
      (λ x has. sub x (contains_there spot rest x has))
      (λ z has. elim (found_from c u g (kept_at c u g spot.0 spot.1) kept z has) [
        | inl this ↦
            record {
              spot = spot;
              has = sub spot (contains_here spot rest);
              done = apart.0;
              is =
                  this;
            }
        | inr before ↦ let was = from z before in
            record {
              spot = was.spot;
              has = was.has;
              done =
                  λ again. was.done (contains_there spot rest was.spot again);
              is = was.is;
            }
      ]) later

  spots_apart : Apart spots
  spots_apart =
      apart_append own_spots (spots_of t u)
      (home_apart (slice_index t.places.current u) 241 (end - 241))
      (pairs_apart (spots_of t u) (mirrors.overflow.once u low))
      (λ x own listed. (mirrors.overflow.only u x.0 x.1 low listed).0
      ((spots_are (slice_index t.places.current u) 241 (end - 241) x.0 x.1 own).0 ∙ home_is))

  pub none_unfit : HasUnfit c u g spots [] → ⊥
  none_unfit unfit =
      no_unfit spots [] spots_apart (λ spot has. has)
      (λ z has. absurd (let within = has.1 in omega (arith, within))) unfit
