use Rattle.std.proofs.Common.{◌≡◌, ◌<◌, ◌+◌, ℕ, ap, sym, ◌∙◌, subst, length, get_or, if◌then◌else◌, arith}
use Rattle.pdl_rules.specs.Places.{on_path}
use Rattle.pdl_paths.specs.Actions.{place_view}
use Rattle.pdl_paths.specs.Masks.{path_of}
use Rattle.pdl_rules_names.proofs.LastSeparator.{length_more, marks_more}
use Rattle.pdl_rules_names.proofs.passed.separator_passed.Goals as goal

pub loop-b-init : goal.loop-b-init
loop-b-init c = (ap length c.new-new.ensures.items, λ gs masked distinct few e j l. absurd (omega (arith, l)))

pub loop-b-preserved : goal.loop-b-preserved
loop-b-preserved c = (
  ap length c.in_ok-push.ensures.items ∙ length_more c.loop-b.new.items c.number_on.result ∙ ap (λ n. n + 1) c.loop-b.invariant.0,
  λ gs masked distinct few e.
      let P : ℕ → ℕ → Type 0 = λ j v. v ≡ (if on_path (path_of gs j) (place_view c.args.place.now) then c.args.k else get_or c.args.last.now j 0) in
      subst (λ xs. (j : ℕ) → j < c.loop-b.b + 1 → P j (get_or xs j 0)) (sym c.in_ok-push.ensures.items)
      (marks_more P c.loop-b.new.items c.number_on.result c.loop-b.b c.loop-b.invariant.0 (c.loop-b.invariant.1 gs masked distinct few e)
      (c.number_on.ensures gs masked distinct few (omega (arith, c.loop-b-test.true, e)))),
)

pub returns : goal.returns
returns c gs masked distinct few e =
    record {
      count = omega (arith, c.loop-b.invariant.0, c.loop-b-test.false, c.loop-b.auto.b-end, e);
      each = λ b l. c.loop-b.invariant.1 gs masked distinct few e b (omega (arith, l, e, c.loop-b-test.false));
    }
