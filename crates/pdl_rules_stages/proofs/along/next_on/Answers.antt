use Rattle.std.proofs.Common.{◌≡◌, ◌∙◌, sym, ap, ap₂, subst, suc, ◌+◌, ◌<◌, ◌≤◌, true, false, map, drop, length, arith}
use Rattle.std.proofs.lemmas.List.{length-map}
use Rattle.pdl_rules.specs.Places.{on_path}
use Rattle.pdl_rules.specs.Stages.{next_on, stage_after}
use Rattle.pdl_paths.specs.Actions.{place_view}
use Rattle.pdl_paths.specs.Masks.{IsMasked}
use Rattle.pdl_rules_stages.proofs.Nth.{dropped, dropped_all, short_take, viewed}
use Rattle.pdl_rules_stages.proofs.PlaceStages.{next_here, next_past, next_other}
use Rattle.pdl_rules_stages.proofs.along.next_on.Goals as goal
use Rattle.pdl_rules_stages.proofs.along.next_on.Goals.{then-is_separator+else-is_on, else-is_separator}
use Rattle.pdl_rules_on_paths.proofs.Nth.{nth}

pub loop-j-init : goal.loop-j-init
loop-j-init c =
    let ps = c.args.places.now in
    let k = c.args.k in
    let one : k + 1 ≡ suc k = omega arith in (
      λ gs on h p. ap₂ (λ n m. next_on on n (drop m (map place_view ps))) (c.begun_before-begun.ensures.is ∙ ap stage_after (viewed place_view ps k)) one,
      omega (arith, c.begun_before-begun.ensures.few, short_take ps k),
    )

pub returns-then-is_on : goal.returns-then-is_on
returns-then-is_on c gs on h p within =
    let ps = c.args.places.now in
    let xs = map place_view ps in
    let j = c.loop-j.j in
    let y = c.index-places-j.result in
    let below : j < length ps = omega arith in
    let got = nth place_view ps j y below c.index-places-j.is in
    let masked = subst (λ q. IsMasked gs q) (sym c.index-places-j.is) (h.masks j y below) in
    let is_on : on_path on (place_view y) ≡ true =
    ap (λ path. on_path path (place_view y)) p.same ∙ sym (c.is_on.ensures gs masked h.distinct h.few p.within) ∙ c.if-is_on.true in
    let one : c.loop-j.begun + 1 ≡ suc c.loop-j.begun = omega arith in
    one
    ∙ sym (ap (next_on on c.loop-j.begun) (dropped xs j (place_view y) got)
    ∙ next_here on c.loop-j.begun (place_view y) (drop (j + 1) xs) (sym c.is_separator.ensures ∙ c.if-is_separator.true) is_on)
    ∙ c.loop-j.invariant.0 gs on h p

pub loop-j-preserved : goal.loop-j-preserved
loop-j-preserved c =
    let ps = c.args.places.now in
    let xs = map place_view ps in
    let j = c.loop-j.j in
    let begun = c.loop-j.begun in
    let y = c.index-places-j.result in
    let below : j < length ps = omega arith in
    let got = nth place_view ps j y below c.index-places-j.is in
    let one : begun + 1 ≡ suc begun = omega arith in
    elim c.if-is_separator.branch [
      | then-is_separator+else-is_on w ↦ (
        λ gs on h p.
            let masked = subst (λ q. IsMasked gs q) (sym c.index-places-j.is) (h.masks j y below) in
            let is_off : on_path on (place_view y) ≡ false =
            ap (λ path. on_path path (place_view y)) p.same ∙ sym (w.is_on.ensures gs masked h.distinct h.few p.within) ∙ w.if-is_on.false in
            ap (λ n. next_on on n (drop (j + 1) xs)) (w.begun-is ∙ one)
            ∙ sym (ap (next_on on begun) (dropped xs j (place_view y) got)
            ∙ next_past on begun (place_view y) (drop (j + 1) xs) (sym c.is_separator.ensures ∙ w.if-is_separator.true) is_off)
            ∙ c.loop-j.invariant.0 gs on h p,
        omega (arith, c.loop-j.invariant.1, w.begun-is),
      )
      | else-is_separator w ↦ (
        λ gs on h p.
            ap (λ n. next_on on n (drop (j + 1) xs)) w.begun-is
            ∙ sym (ap (next_on on begun) (dropped xs j (place_view y) got)
            ∙ next_other on begun (place_view y) (drop (j + 1) xs) (sym c.is_separator.ensures ∙ w.if-is_separator.false))
            ∙ c.loop-j.invariant.0 gs on h p,
        omega (arith, c.loop-j.invariant.1, w.begun-is),
      )
    ]

pub returns : goal.returns
returns c gs on h p within =
    let xs = map place_view c.args.places.now in
    let past : length xs ≤ c.loop-j.j = omega (arith, length-map c.args.places.now place_view) in
    sym (ap (next_on on c.loop-j.begun) (dropped_all xs c.loop-j.j past)) ∙ c.loop-j.invariant.0 gs on h p
