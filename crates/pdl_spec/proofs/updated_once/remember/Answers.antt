use Rattle.std.proofs.Common.{rules, ◌≡◌, ◌∙◌, sym, ap, ◌++◌, ◌∷◌, [], bytes_eq, if◌then◌else◌}
use Rattle.pdl_spec.specs.Updated.{stages_of}
use Rattle.pdl_spec.proofs.Guesses.{one_guess}
use Rattle.pdl_spec.proofs.updated_once.remember.Goals as goal

pub returns-in_ok-push-in-Some : goal.returns-in_ok-push-in-Some
returns-in_ok-push-in-Some c name =
    let old = c.args.guesses.now.items in
    let same : c.in_ok-name-in-Some.name ≡ c.in-Some.guess.now = search rules in
    ap (stages_of name) c.in_ok-push-in-Some.ensures.items
    ∙ one_guess name old (record { name = c.in_ok-name-in-Some.name; stage = c.args.stage })
    ∙ ap (λ b. stages_of name old ++ (if b then c.args.stage ∷ [] else [])) (ap (λ n. bytes_eq n name) same ∙ sym (c.in-Some.ensures name))
