-- What stands inside, by its depth, and the levels of operators.
use Rattle.std.proofs.Common.{◌≡◌, ◌≢◌, ◌≤◌, ℕ, zero, suc, ◌+◌, ◌-◌, Some, Ok, Err, refl, ap, sym, subst, ◌∙◌, arith}
use Rattle.pdl_semantics.specs.Tree.{Expr, Binary, BinaryOp}
use Rattle.pdl_syntax_tokens.specs.Cursor.{next, first_kind}
use Rattle.pdl_syntax_tokens.specs.Tokens.{Row}
use Rattle.pdl_syntax_grammar.specs.Reading.{Outcome, Parser, and_then, op_in, operand, inside, expr, level, chain}

-- where there is no room for tokens inside, an expression inside is refused
pub inside_none : (n : ℕ) (ts : Row) → n ≡ 0 → (inside n).full ts ≡ Err ts
unfolding inside
inside_none n ts e = rw e refl

-- where there is no room for tokens inside, an operand inside is refused
pub operand_none : (n : ℕ) (ts : Row) → n ≡ 0 → (inside n).operand ts ≡ Err ts
unfolding inside
operand_none n ts e = rw e refl

-- an expression inside, of at most n tokens, is read as one of at most n - 1
pub inside_more : (n : ℕ) (ts : Row) → n ≢ 0 → (inside n).full ts ≡ expr (n - 1) ts
unfolding inside
inside_more zero ts h = absurd (h refl)
inside_more (suc n) ts h = ap (λ k. expr k ts) (omega arith)

-- an operand inside, of at most n tokens, is read with at most n - 1 inside it
pub operand_more : (n : ℕ) (ts : Row) → n ≢ 0 → (inside n).operand ts ≡ operand (inside (n - 1)) ts
unfolding inside
operand_more zero ts h = absurd (h refl)
operand_more (suc n) ts h = ap (λ k. operand (inside k) ts) (omega arith)

level_none : (p : Parser Expr) (room n : ℕ) (ts : Row) → n ≡ 0 → level p room n ts ≡ p ts
unfolding level
level_none p room n ts e = rw e refl

-- after the first operand of a level
level_more : (p : Parser Expr) (room n : ℕ) (ts rest : Row) (e : Expr) → n ≢ 0
    → level p room (n - 1) ts ≡ Ok (e, rest) → level p room n ts ≡ chain (level p room (n - 1)) (n - 1) room e rest
unfolding level
level_more p room zero ts rest e h k = absurd (h refl)
level_more p room (suc n) ts rest e h k =
    let is : n ≡ suc n - 1 = omega arith in
    let f : level p room n ts ≡ Ok (e, rest) = subst (λ m. level p room m ts ≡ Ok (e, rest)) (sym is) k in
    subst (λ m. level p room (suc n) ts ≡ chain (level p room m) m room e rest) is (rw f refl)

level_fails : (p : Parser Expr) (room n : ℕ) (ts left : Row) → n ≢ 0 → level p room (n - 1) ts ≡ Err left → level p room n ts ≡ Err left
unfolding level
level_fails p room zero ts left h e = absurd (h refl)
level_fails p room (suc n) ts left h e =
    let is : n ≡ suc n - 1 = omega arith in
    let f : level p room n ts ≡ Err left = subst (λ m. level p room m ts ≡ Err left) (sym is) e in
    rw f refl

-- a level after the one below it
pub level_next : (p : Parser Expr) (room k : ℕ) (ts rest : Row) (e : Expr)
    → level p room k ts ≡ Ok (e, rest) → level p room (k + 1) ts ≡ chain (level p room k) k room e rest
level_next p room k ts rest e f =
    let is : k ≡ (k + 1) - 1 = omega arith in
    let g : level p room ((k + 1) - 1) ts ≡ Ok (e, rest) = subst (λ m. level p room m ts ≡ Ok (e, rest)) is f in
    subst (λ m. level p room (k + 1) ts ≡ chain (level p room m) m room e rest) (sym is) (level_more p room (k + 1) ts rest e (omega arith) g)

-- what a level refuses each one above it refuses
level_fails_above : (p : Parser Expr) (room k m : ℕ) (ts left : Row) → level p room k ts ≡ Err left → level p room (k + m) ts ≡ Err left
level_fails_above p room k zero ts left e = subst (λ n. level p room n ts ≡ Err left) (omega arith) e
level_fails_above p room k (suc m) ts left e =
    let is : k + m ≡ (k + suc m) - 1 = omega arith in
    level_fails p room (k + suc m) ts left (omega arith) (subst (λ n. level p room n ts ≡ Err left) is (level_fails_above p room k m ts left e))

-- the first operand is the lowest level
pub level_first : (p : Parser Expr) (room : ℕ) (ts : Row) (o : Outcome Expr) → p ts ≡ o → level p room 0 ts ≡ o
level_first p room ts o e = level_none p room 0 ts refl ∙ e

-- the first operand of a level is refused
pub level_fails_first : (p : Parser Expr) (room n : ℕ) (ts left : Row) → p ts ≡ Err left → level p room n ts ≡ Err left
level_fails_first p room n ts left e =
    subst (λ m. level p room m ts ≡ Err left) (omega arith) (level_fails_above p room 0 n ts left (level_none p room 0 ts refl ∙ e))

-- the operators of a level below are refused
pub level_fails_later : (p : Parser Expr) (room k n : ℕ) (ts rest left : Row) (e : Expr)
    → k + 1 ≤ n → level p room k ts ≡ Ok (e, rest) → chain (level p room k) k room e rest ≡ Err left
    → level p room n ts ≡ Err left
level_fails_later p room k n ts rest left e few f g =
    let is : (k + 1) + (n - (k + 1)) ≡ n = omega arith in
    subst (λ m. level p room m ts ≡ Err left) is (level_fails_above p room (k + 1) (n - (k + 1)) ts left (level_next p room k ts rest e f ∙ g))

-- one more operator of a level
chain_more : (p : Parser Expr) (n m k : ℕ) (op : BinaryOp) (x y : Expr) (ts rest : Row)
    → k ≡ m + 1 → op_in n (first_kind ts) ≡ Some op → p (next ts) ≡ Ok (y, rest)
    → chain p n k x ts ≡ chain p n m (Binary op x y) rest
unfolding chain
chain_more p n m k op x y ts rest count e r =
    let is : suc m ≡ k = omega arith in
    subst (λ j. chain p n j x ts ≡ chain p n m (Binary op x y) rest) is (rw e (ap (λ (q : Outcome Expr). and_then q (λ z. chain p n m (Binary op x z))) r))

-- a loop that reads operators goes on
pub level_goes_on : (p : Parser Expr) (n m k : ℕ) (op : BinaryOp) (x y z : Expr) (ts rest : Row) (o : Outcome Expr)
    → k ≡ m + 1 → op_in n (first_kind ts) ≡ Some op → p (next ts) ≡ Ok (y, rest) → z ≡ Binary op x y →
    o ≡ chain p n k x ts → o ≡ chain p n m z rest
level_goes_on p n m k op x y z ts rest o count e r i j = j ∙ (chain_more p n m k op x y ts rest count e r ∙ ap (λ w. chain p n m w rest) (sym i))
