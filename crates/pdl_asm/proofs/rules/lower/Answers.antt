use Rattle.std.proofs.Common.{◌≡◌, ℕ, ◌≤◌, ◌<◌, Option, sym, ap, subst, if◌then◌else◌}
use Rattle.std.proofs.lemmas.Bool.{le-leb, lt-leb}
use Rattle.pdl_kit.specs.declared.rule.Rule.{Rule}
use Rattle.pdl_asm.specs.Values.{lower, rank}
use Rattle.pdl_asm.proofs.rules.lower.Goals as goal

first_lower : (a b : Option Rule) (m n : ℕ) → m ≡ rank a → n ≡ rank b → m ≤ n → a ≡ lower a b
first_lower a b m n e f h =
    let P : ℕ → Type 0 = λ x. x ≤ n in
    let Q : ℕ → Type 0 = λ y. rank a ≤ y in
    sym (ap (λ t. if t then a else b) (le-leb (rank a) (rank b) (subst Q f (subst P e h))))

second_lower : (a b : Option Rule) (m n : ℕ) → m ≡ rank a → n ≡ rank b → n < m → b ≡ lower a b
second_lower a b m n e f h =
    let P : ℕ → Type 0 = λ x. x < m in
    let Q : ℕ → Type 0 = λ y. rank b < y in
    sym (ap (λ t. if t then a else b) (lt-leb (rank a) (rank b) (subst Q e (subst P f h))))

pub returns-then-rank : goal.returns-then-rank
returns-then-rank c = first_lower c.args.a c.args.b _ _ c.rank.ensures c.rank-2.ensures c.if-rank.true

pub returns-else-rank : goal.returns-else-rank
returns-else-rank c = second_lower c.args.a c.args.b _ _ c.rank.ensures c.rank-2.ensures c.if-rank.false
