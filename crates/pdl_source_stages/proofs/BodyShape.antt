-- A source that breaks no rule has a body in which each fork is directly followed by a separator, and each branch has one before its first fork, so its stages have a shape.
use Rattle.std.proofs.Common.{◌≡◌, refl, sym, ap, ap₂, ◌∙◌, subst, ℕ, zero, suc, ◌+◌, ◌<◌, Bool, true, false, ◌&&◌, ◌||◌, List, [], ◌∷◌, ◌++◌, length, drop, take, append_assoc, append-nil, length-append, Some, None, arith, cond, ◌==◌, eqb-true, eq-eqb}
use Rattle.std.proofs.Math.Seq.{drop-append_seam, take-append_seam}
use Rattle.std.proofs.lemmas.Bool.{false≢true, and_from, and_parts, or_parts, or_left, not-false}
use Rattle.pdl_kit.specs.declared.rule.Rule.TheVariants.{F2}
use Rattle.pdl_semantics.specs.Tree.{Span, Expr, Stmt, Separator, If, Stmts, Nil, Cons, Mem, Pipe}
use Rattle.pdl_semantics.specs.Flat
use Rattle.pdl_semantics.specs.Flatten.{with_guard, past, at_otherwise, guard_of, separators, at_start, flat}
use Rattle.pdl_semantics.specs.Flatten
use Rattle.pdl_rules.specs.Places.{Place, Statement, Branch, with_inner, statements, places, places_after}
use Rattle.pdl_rules.specs.Stages.{are_outer, stage_in}
use Rattle.pdl_rules.specs.Forks.{holds_separator, is_fork, places_in, starts_with_separator, is_in_outer_stage}
use Rattle.pdl_rules.specs.Refusal.{KeepsRules}
use Rattle.pdl_source_stages.proofs.Sites.{branch, front_of}
use Rattle.pdl_source_stages.proofs.Walks.{cut, cut_in, at_front}
use Rattle.pdl_source_stages.proofs.TextStages.{outer_less, sides_differ, from_append, from_none, Reads, reads_here, reads_none, reads_cut, reads_first, reads_second, past_branch}
use Rattle.pdl_source_stages.proofs.Shapes.{is_whole, begins_stage, is_forked, is_late, Shape, Cut, Fork, size, long, shape, side_shape, stage, leads_on, after, size_is, long_is, graph_trunk}
use Rattle.pdl_source_stages.proofs.Spots.{Proper, ProperSide, Rest, Groups, groups, Known, known, Final}
use Rattle.pdl_rules.proofs.EachPlace.{closing}

-- how many places stand in some statements is told by no branch
mutual
  long_in : (bs cs : List Branch) (s : Stmt) → length (with_inner bs s) ≡ length (with_inner cs s)
  long_in bs cs (If sp c when otherwise) =
      let f = long_all (bs ++ branch sp c true when ∷ []) (cs ++ branch sp c true when ∷ []) when in
      let g = long_all (bs ++ branch sp c false otherwise ∷ []) (cs ++ branch sp c false otherwise ∷ []) otherwise in
      ap suc
      (length-append (statements (bs ++ branch sp c true when ∷ []) when) (statements (bs ++ branch sp c false otherwise ∷ []) otherwise)
      ∙ ap₂ (λ a b. a + b) f g
      ∙ sym (length-append (statements (cs ++ branch sp c true when ∷ []) when) (statements (cs ++ branch sp c false otherwise ∷ []) otherwise)))
  long_in bs cs _ = refl

  pub long_all : (bs cs : List Branch) (ss : Stmts) → length (statements bs ss) ≡ length (statements cs ss)
  long_all bs cs Nil = refl
  long_all bs cs (Cons s ss) =
      length-append (with_inner bs s) (statements bs ss) ∙ ap₂ (λ a b. a + b) (long_in bs cs s) (long_all bs cs ss)
      ∙ sym (length-append (with_inner cs s) (statements cs ss))

-- the places after those before a place and it are the later ones
pub after_is : (p : Pipe) (before : List Place) (x : Place) (later : List Place)
    → places p ≡ before ++ x ∷ later → places_after p before ≡ later
after_is p before x later e =
    ap (λ l. drop (suc (length before)) l) (e ∙ sym (append_assoc before (x ∷ []) later))
    ∙ ap (λ n. drop n ((before ++ x ∷ []) ++ later))
    (let f = length-append before (x ∷ []) in let g : length (x ∷ []) ≡ 1 = refl in
    let h : suc (length before) ≡ length (before ++ x ∷ []) = omega arith in h)
    ∙ drop-append_seam (before ++ x ∷ []) later

-- past the first of two lists comes the second
pub drop_front : (xs ys : List Place) (n : ℕ) → n ≡ length xs → drop n (xs ++ ys) ≡ ys
drop_front xs ys n e = ap (λ k. drop k (xs ++ ys)) e ∙ drop-append_seam xs ys

-- an `if` that is no fork begins no stage
no_fork_whole : (sp : Span) (c : Expr) (when otherwise : Stmts) → is_fork (If sp c when otherwise) ≡ false → is_whole when otherwise ≡ true
no_fork_whole sp c when otherwise e =
    let parts = or_parts (holds_separator when) (holds_separator otherwise || false) e in
    let rest = or_parts (holds_separator otherwise) false parts.1 in
    let f = eqb-true (separators when) 0 (not-false _ parts.0) in
    let g = eqb-true (separators otherwise) 0 (not-false _ rest.0) in
    eq-eqb (separators when + separators otherwise) 0 (omega arith)

other_false : (a b : Bool) → (a && b) ≡ false → a ≡ true → b ≡ false
other_false true b e f = e
other_false false b e f = absurd (false≢true f)

-- the statements begin with a separator, where the places do that stand in just these branches and none comes first after them
starts : (bs : List Branch) (ss : Stmts) (rest : List Place) → starts_with_separator bs rest ≡ false
    → starts_with_separator bs (statements bs ss ++ rest) ≡ true → begins_stage ss ≡ true
starts bs Nil rest e h = absurd (false≢true (sym e ∙ h))
starts bs (Cons (Separator sp) ss) rest e h = refl
starts bs (Cons (If sp c when otherwise) ss) rest e h = absurd (false≢true h)
starts bs (Cons s ss) rest e h = absurd (false≢true h)

-- no separator in just these branches, or in these and more, comes first in these places
abbrev Closes : List Branch → List Place → Type 0
Closes bs rest = (more : List Branch) → starts_with_separator (bs ++ more) rest ≡ false

-- the same of statements in other branches and what comes after them
closes_before : (cs ds : List Branch) (ss : Stmts) (rest : List Place) → (are_outer ds cs && are_outer cs ds) ≡ false
    → starts_with_separator cs rest ≡ false → starts_with_separator cs (statements ds ss ++ rest) ≡ false
closes_before cs ds Nil rest h k = k
closes_before cs ds (Cons (Separator sp) ss) rest h k = h
closes_before cs ds (Cons (If sp c when otherwise) ss) rest h k = refl
closes_before cs ds (Cons s ss) rest h k = refl

-- what comes after an `if` closes its branches, where what comes after the statements closes theirs
closes_inner : (bs : List Branch) (b : Branch) (ss : Stmts) (rest : List Place) → Closes bs rest → Closes (bs ++ b ∷ []) (statements bs ss ++ rest)
closes_inner bs b ss rest h more =
    subst (λ l. starts_with_separator l (statements bs ss ++ rest) ≡ false) (sym (append_assoc bs (b ∷ []) more))
    (closes_before (bs ++ b ∷ more) bs ss rest (and_false (are_outer bs (bs ++ b ∷ more)) (outer_less bs b more)) (h (b ∷ more)))
  where
    and_false : (x : Bool) {y : Bool} → y ≡ false → (x && y) ≡ false
    and_false true e = e
    and_false false e = refl

closes_first : (bs : List Branch) (sp : Span) (c : Expr) (when otherwise ss : Stmts) (rest : List Place) → Closes bs rest
    → Closes (bs ++ branch sp c true when ∷ []) (statements (bs ++ branch sp c false otherwise ∷ []) otherwise ++ (statements bs ss ++ rest))
closes_first bs sp c when otherwise ss rest h more =
    closes_before ((bs ++ branch sp c true when ∷ []) ++ more) (bs ++ branch sp c false otherwise ∷ []) otherwise (statements bs ss ++ rest)
    (ap (λ z. z && are_outer ((bs ++ branch sp c true when ∷ []) ++ more) (bs ++ branch sp c false otherwise ∷ []))
    (ap (are_outer (bs ++ branch sp c false otherwise ∷ [])) (append_assoc bs (branch sp c true when ∷ []) more)
    ∙ sides_differ sp c false otherwise when bs [] more))
    (closes_inner bs (branch sp c true when) ss rest h more)

-- what stands in the stage of the fork around it
in_outer : (front : List Place) (bs : List Branch) (b : Branch) (n : ℕ) → stage_in front bs ≡ n → stage_in front (bs ++ b ∷ []) ≡ n
    → is_in_outer_stage front (bs ++ b ∷ []) ≡ true
in_outer front [] b n h k = eq-eqb (stage_in front (b ∷ [])) (stage_in front []) (k ∙ sym h)
in_outer front (x ∷ xs) b n h k =
    eq-eqb (stage_in front (x ∷ (xs ++ b ∷ []))) (stage_in front (take (length (xs ++ b ∷ [])) (x ∷ (xs ++ b ∷ []))))
    (k ∙ sym (ap (stage_in front) most ∙ h))
  where
    most : take (length (xs ++ b ∷ [])) (x ∷ (xs ++ b ∷ [])) ≡ x ∷ xs
    most =
        ap (λ i. take i (x ∷ (xs ++ b ∷ [])))
        (let l = length-append xs (b ∷ []) in let o : length (b ∷ []) ≡ 1 = refl in
        let e : length (xs ++ b ∷ []) ≡ suc (length xs) = omega arith in e)
        ∙ take-append_seam (x ∷ xs) (b ∷ [])

module _ (p : Pipe) (rules : KeepsRules p) where
  -- F2 of an `if`
  fork_rule : (sp : Span) (c : Expr) (when otherwise : Stmts) (bs : List Branch) (front later : List Place)
      → places p ≡ front ++ Statement (If sp c when otherwise) bs ∷ later → is_fork (If sp c when otherwise) ≡ true
      → (is_in_outer_stage front bs ≡ false) × (starts_with_separator bs (drop (places_in (when ∷ otherwise ∷ [])) later) ≡ true)
  fork_rule sp c when otherwise bs front later e fork =
      let rule = other_false (is_fork (If sp c when otherwise)) _ (rules F2 front (Statement (If sp c when otherwise) bs) later e) fork in
      let parts = or_parts (length bs == 4 || is_in_outer_stage front bs) _ rule in (
        (or_parts (length bs == 4) (is_in_outer_stage front bs) parts.0).1,
        ap (λ l. starts_with_separator bs (drop (places_in (when ∷ otherwise ∷ [])) l)) (sym (after_is p front (Statement (If sp c when otherwise) bs) later e))
            ∙ not-false _ parts.1,
      )

  -- where the places of an `if`, of its branches, and of what comes after it stand
  at_if : (sp : Span) (c : Expr) (when otherwise ss : Stmts) (bs : List Branch) (front tail : List Place)
      → places p ≡ front ++ (statements bs (Cons (If sp c when otherwise) ss) ++ tail)
      → places p ≡ front ++ Statement (If sp c when otherwise) bs ∷ ((statements (bs ++ branch sp c true when ∷ []) when
      ++ statements (bs ++ branch sp c false otherwise ∷ []) otherwise) ++ (statements bs ss ++ tail))
  at_if sp c when otherwise ss bs front tail e = e ∙ ap (λ l. front ++ l) (append_assoc (with_inner bs (If sp c when otherwise)) (statements bs ss) tail)

  at_first : (sp : Span) (c : Expr) (when otherwise ss : Stmts) (bs : List Branch) (front tail : List Place)
      → places p ≡ front ++ (statements bs (Cons (If sp c when otherwise) ss) ++ tail)
      → places p ≡ (front ++ Statement (If sp c when otherwise) bs ∷ []) ++ (statements (bs ++ branch sp c true when ∷ []) when
      ++ (statements (bs ++ branch sp c false otherwise ∷ []) otherwise ++ (statements bs ss ++ tail)))
  at_first sp c when otherwise ss bs front tail e =
      at_if sp c when otherwise ss bs front tail e
      ∙ ap (λ l. front ++ Statement (If sp c when otherwise) bs ∷ l)
      (append_assoc (statements (bs ++ branch sp c true when ∷ []) when) (statements (bs ++ branch sp c false otherwise ∷ []) otherwise)
      (statements bs ss ++ tail))
      ∙ sym
      (append_assoc front (Statement (If sp c when otherwise) bs ∷ [])
      (statements (bs ++ branch sp c true when ∷ []) when
      ++ (statements (bs ++ branch sp c false otherwise ∷ []) otherwise ++ (statements bs ss ++ tail))))

  at_second : (sp : Span) (c : Expr) (when otherwise ss : Stmts) (bs : List Branch) (front tail : List Place)
      → places p ≡ front ++ (statements bs (Cons (If sp c when otherwise) ss) ++ tail)
      → places p ≡ (front ++ Statement (If sp c when otherwise) bs ∷ statements (bs ++ branch sp c true when ∷ []) when)
      ++ (statements (bs ++ branch sp c false otherwise ∷ []) otherwise ++ (statements bs ss ++ tail))
  at_second sp c when otherwise ss bs front tail e =
      at_if sp c when otherwise ss bs front tail e
      ∙ ap (λ l. front ++ Statement (If sp c when otherwise) bs ∷ l)
      (append_assoc (statements (bs ++ branch sp c true when ∷ []) when) (statements (bs ++ branch sp c false otherwise ∷ []) otherwise)
      (statements bs ss ++ tail))
      ∙ sym
      (append_assoc front (Statement (If sp c when otherwise) bs ∷ statements (bs ++ branch sp c true when ∷ []) when)
      (statements (bs ++ branch sp c false otherwise ∷ []) otherwise ++ (statements bs ss ++ tail)))

  at_rest : (s : Stmt) (ss : Stmts) (bs : List Branch) (front tail : List Place) → places p ≡ front ++ (statements bs (Cons s ss) ++ tail)
      → places p ≡ (front ++ with_inner bs s) ++ (statements bs ss ++ tail)
  at_rest s ss bs front tail e =
      e ∙ ap (λ l. front ++ l) (append_assoc (with_inner bs s) (statements bs ss) tail)
      ∙ sym (append_assoc front (with_inner bs s) (statements bs ss ++ tail))

  -- a fork is directly followed by a separator
  follows : (sp : Span) (c : Expr) (when otherwise ss : Stmts) (bs : List Branch) (front tail : List Place) → Closes bs tail
      → places p ≡ front ++ (statements bs (Cons (If sp c when otherwise) ss) ++ tail) → is_fork (If sp c when otherwise) ≡ true
      → begins_stage ss ≡ true
  follows sp c when otherwise ss bs front tail closed e fork =
      let here = at_if sp c when otherwise ss bs front tail e in
      let long = long_all [] (bs ++ branch sp c true when ∷ []) when in
      let more = long_all [] (bs ++ branch sp c false otherwise ∷ []) otherwise in
      let sum = length-append (statements (bs ++ branch sp c true when ∷ []) when) (statements (bs ++ branch sp c false otherwise ∷ []) otherwise) in
      let same : drop (places_in (when ∷ otherwise ∷ []))
      ((statements (bs ++ branch sp c true when ∷ []) when ++ statements (bs ++ branch sp c false otherwise ∷ []) otherwise) ++ (statements bs ss ++ tail))
      ≡ statements bs ss ++ tail =
      drop_front (statements (bs ++ branch sp c true when ∷ []) when ++ statements (bs ++ branch sp c false otherwise ∷ []) otherwise)
      (statements bs ss ++ tail) (places_in (when ∷ otherwise ∷ [])) (omega arith)
      in
      starts bs ss tail (subst (λ l. starts_with_separator l tail ≡ false) (append-nil bs) (closed []))
      (ap (starts_with_separator bs) (sym same) ∙ (fork_rule sp c when otherwise bs front _ here fork).1)

  mutual
    -- statements in a stage of theirs: each fork is directly followed by a separator, and its branches have one before their first fork
    forked_all : (ss : Stmts) (bs : List Branch) (n : ℕ) (front tail : List Place) → Closes bs tail → Reads front bs n
        → places p ≡ front ++ (statements bs ss ++ tail) → is_forked ss ≡ true
    forked_all Nil bs n front tail closed r e = refl
    forked_all (Cons (Separator sp) ss) bs n front tail closed r e =
        forked_all ss bs (suc (cut front)) (front ++ Statement (Separator sp) bs ∷ []) tail closed (reads_cut front bs sp)
        (at_rest (Separator sp) ss bs front tail e)
    forked_all (Cons (If sp c when otherwise) (Cons (Separator sq) ss)) bs n front tail closed r e =
        and_from (is_whole when otherwise || (true && (is_late when && is_late otherwise))) (is_forked ss)
        (at (is_whole when otherwise)
        (late_all when bs (branch sp c true when) n (front ++ Statement (If sp c when otherwise) bs ∷ [])
        (statements (bs ++ branch sp c false otherwise ∷ []) otherwise ++ (statements bs (Cons (Separator sq) ss) ++ tail))
        (closes_first bs sp c when otherwise (Cons (Separator sq) ss) tail closed)
        (reads_here (front ++ Statement (If sp c when otherwise) bs ∷ []) bs n (reads_none front (Statement (If sp c when otherwise) bs ∷ []) bs n refl r))
        (reads_first front bs sp c when otherwise n r)
        (at_first sp c when otherwise (Cons (Separator sq) ss) bs front tail e))
        (late_all otherwise bs (branch sp c false otherwise) n
        (front ++ Statement (If sp c when otherwise) bs ∷ statements (bs ++ branch sp c true when ∷ []) when)
        (statements bs (Cons (Separator sq) ss) ++ tail)
        (closes_inner bs (branch sp c false otherwise) (Cons (Separator sq) ss) tail closed)
        (from_append 0 0 bs front (Statement (If sp c when otherwise) bs ∷ statements (bs ++ branch sp c true when ∷ []) when)
        ∙ past_branch (0 + cut front) _ bs (branch sp c true when) when ∙ reads_here front bs n r)
        (reads_second front bs sp c when otherwise n r)
        (at_second sp c when otherwise (Cons (Separator sq) ss) bs front tail e)))
        (forked_all ss bs (suc (cut (front ++ with_inner bs (If sp c when otherwise))))
        ((front ++ with_inner bs (If sp c when otherwise)) ++ Statement (Separator sq) bs ∷ []) tail closed
        (reads_cut (front ++ with_inner bs (If sp c when otherwise)) bs sq)
        (at_rest (Separator sq) ss bs (front ++ with_inner bs (If sp c when otherwise)) tail
        (at_rest (If sp c when otherwise) (Cons (Separator sq) ss) bs front tail e)))
      where
        at : (w : Bool) → is_late when ≡ true → is_late otherwise ≡ true → (w || (true && (is_late when && is_late otherwise))) ≡ true
        at true h k = refl
        at false h k = and_from (is_late when) (is_late otherwise) h k
    forked_all (Cons (If sp c when otherwise) ss) bs n front tail closed r e =
        let whole = no_fork_whole sp c when otherwise
        (no_fork (is_fork (If sp c when otherwise)) (λ f. follows sp c when otherwise ss bs front tail closed e f) refl) in
        let f = cut_in bs (If sp c when otherwise) in
        let none : separators when + separators otherwise ≡ 0 = eqb-true (separators when + separators otherwise) 0 whole in
        and_from (is_whole when otherwise || (begins_stage ss && (is_late when && is_late otherwise))) (is_forked ss)
        (or_left (is_whole when otherwise) _ whole)
        (forked_all ss bs n (front ++ with_inner bs (If sp c when otherwise)) tail closed
        (reads_none front (with_inner bs (If sp c when otherwise)) bs n (omega arith) r)
        (at_rest (If sp c when otherwise) ss bs front tail e))
      where
        no_fork : (b : Bool) → (b ≡ true → begins_stage ss ≡ true) → begins_stage ss ≡ false → b ≡ false
        no_fork true h k = absurd (false≢true (sym k ∙ h refl))
        no_fork false h k = refl
    forked_all (Cons s ss) bs n front tail closed r e =
        forked_all ss bs n (front ++ Statement s bs ∷ []) tail closed (reads_none front (Statement s bs ∷ []) bs n refl r) (at_rest s ss bs front tail e)

    -- statements of a branch that still stand in the stage of its fork: a separator comes before the first fork
    late_all : (ss : Stmts) (bs : List Branch) (b : Branch) (n : ℕ) (front tail : List Place) → Closes (bs ++ b ∷ []) tail
        → stage_in front bs ≡ n → Reads front (bs ++ b ∷ []) n → places p ≡ front ++ (statements (bs ++ b ∷ []) ss ++ tail) → is_late ss ≡ true
    late_all Nil bs b n front tail closed o r e = refl
    late_all (Cons (Separator sp) ss) bs b n front tail closed o r e =
        forked_all ss (bs ++ b ∷ []) (suc (cut front)) (front ++ Statement (Separator sp) (bs ++ b ∷ []) ∷ []) tail closed (reads_cut front (bs ++ b ∷ []) sp)
        (at_rest (Separator sp) ss (bs ++ b ∷ []) front tail e)
    late_all (Cons (If sp c when otherwise) ss) bs b n front tail closed o r e =
        let here = at_if sp c when otherwise ss (bs ++ b ∷ []) front tail e in
        let whole = no_fork_whole sp c when otherwise
        (no_fork (is_fork (If sp c when otherwise)) (λ f. (fork_rule sp c when otherwise (bs ++ b ∷ []) front _ here f).0)
        (in_outer front bs b n o (reads_here front (bs ++ b ∷ []) n r)))
        in
        let f = cut_in (bs ++ b ∷ []) (If sp c when otherwise) in
        let none : separators when + separators otherwise ≡ 0 = eqb-true (separators when + separators otherwise) 0 whole in
        and_from (is_whole when otherwise) (is_late ss) whole
        (late_all ss bs b n (front ++ with_inner (bs ++ b ∷ []) (If sp c when otherwise)) tail closed
        (from_append 0 0 bs front (with_inner (bs ++ b ∷ []) (If sp c when otherwise))
        ∙ from_none (0 + cut front) _ bs (with_inner (bs ++ b ∷ []) (If sp c when otherwise)) (omega arith) ∙ o)
        (reads_none front (with_inner (bs ++ b ∷ []) (If sp c when otherwise)) (bs ++ b ∷ []) n (omega arith) r)
        (at_rest (If sp c when otherwise) ss (bs ++ b ∷ []) front tail e))
      where
        no_fork : {a : Bool} (b : Bool) → (b ≡ true → a ≡ false) → a ≡ true → b ≡ false
        no_fork true h k = absurd (false≢true (sym (h refl) ∙ k))
        no_fork false h k = refl
    late_all (Cons s ss) bs b n front tail closed o r e =
        late_all ss bs b n (front ++ Statement s (bs ++ b ∷ []) ∷ []) tail closed
        (from_append 0 0 bs front (Statement s (bs ++ b ∷ []) ∷ []) ∙ from_none (0 + cut front) _ bs (Statement s (bs ++ b ∷ []) ∷ []) refl ∙ o)
        (reads_none front (Statement s (bs ++ b ∷ []) ∷ []) (bs ++ b ∷ []) n refl r)
        (at_rest s ss (bs ++ b ∷ []) front tail e)

  -- F2: each fork in the body of a source that breaks no rule is in form
  pub body_forked : is_forked p.body ≡ true
  body_forked =
      forked_all p.body [] 0 (front_of p) (closing p) (λ more. refl) (λ cs. from_none 0 0 cs (front_of p) (sym (at_front p).begun))
      (append_assoc (front_of p) (statements [] p.body) (closing p))

-- THE STAGES OF A SOURCE

mutual
  -- each fork of a shape has a branch stage
  pub proper : (ms : List Mem) (ss : Stmts) (w : Flatten.Position) → is_forked ss ≡ true → Proper (shape ms ss w)
  proper ms Nil w h = tt
  proper ms (Cons (Separator sp) ss) w h = proper ms ss (past ms (Separator sp) w) h
  proper ms (Cons (If sp c when otherwise) (Cons (Separator sq) ss)) w h =
      let parts = and_parts (is_whole when otherwise || (true && (is_late when && is_late otherwise))) (is_forked ss) h in
      at (is_whole when otherwise) refl parts.0 (λ i. proper_side ms when (with_guard c w) i) (λ i. proper_side ms otherwise (at_otherwise ms c when w) i)
      (proper ms ss (past ms (Separator sq) (past ms (If sp c when otherwise) w)) parts.1)
    where
      at : (b : Bool) → is_whole when otherwise ≡ b → (b || (true && (is_late when && is_late otherwise))) ≡ true
          → (is_late when ≡ true → ProperSide (side_shape ms when (with_guard c w)))
          → (is_late otherwise ≡ true → ProperSide (side_shape ms otherwise (at_otherwise ms c when w)))
          → Proper (shape ms ss (past ms (Separator sq) (past ms (If sp c when otherwise) w)))
          → Proper
          (cond b (Cut (shape ms ss (past ms (Separator sq) (past ms (If sp c when otherwise) w))))
          (Fork (guard_of w.vars c) (side_shape ms when (with_guard c w)) (side_shape ms otherwise (at_otherwise ms c when w))
          (shape ms ss (past ms (Separator sq) (past ms (If sp c when otherwise) w)))))
      at true e fits f g k = k
      at false e fits f g k =
          let late = and_parts (is_late when) (is_late otherwise) fits in
          let l1 = long_is ms when (with_guard c w) late.0 in
          let l2 = long_is ms otherwise (at_otherwise ms c when w) late.1 in
          let n = some (separators when + separators otherwise) e in (
            (let z : 0 < long (side_shape ms when (with_guard c w)) + long
                (side_shape ms otherwise (at_otherwise ms c when w)) = omega arith in z),
            f late.0,
            g late.1,
            k,
          )
        where
          some : (n : ℕ) → (n == 0) ≡ false → 0 < n
          some zero e = absurd (false≢true (sym e))
          some (suc n) e = omega arith
  proper ms (Cons (If sp c when otherwise) ss) w h =
      proper ms ss (past ms (If sp c when otherwise) w)
      (and_parts (is_whole when otherwise || (begins_stage ss && (is_late when && is_late otherwise))) (is_forked ss) h).1
  proper ms (Cons s ss) w h = proper ms ss (past ms s w) h

  proper_side : (ms : List Mem) (ss : Stmts) (w : Flatten.Position) → is_late ss ≡ true → ProperSide (side_shape ms ss w)
  proper_side ms Nil w h = tt
  proper_side ms (Cons (Separator sp) ss) w h = proper ms ss (past ms (Separator sp) w) h
  proper_side ms (Cons (If sp c when otherwise) ss) w h =
      proper_side ms ss (past ms (If sp c when otherwise) w) (and_parts (is_whole when otherwise) (is_late ss) h).1
  proper_side ms (Cons s ss) w h = proper_side ms ss (past ms s w) h

-- the shape of a source's body
abbrev pub body_shape : Pipe → Shape
body_shape p = shape p.mems p.body (at_start p)

-- the stages of a source are those of its body's shape, where each fork is in form
pub stages_are : (p : Pipe) → is_forked p.body ≡ true
    → (flat p).stages ≡ stage (leads_on Flat.Ends 0 (body_shape p)) [] None ∷ after [] Flat.Ends 0 (body_shape p)
stages_are p h = ap (λ (g : Flatten.Graph). stage g.next [] None ∷ g.later) (graph_trunk p.mems [] Flat.Ends p.body (at_start p) refl h)

-- the stages of a source lie as its body's shape says, and there are no others, where each fork is in form
both_groups : (p : Pipe) → is_forked p.body ≡ true
    → Groups (flat p) [] Flat.Ends 0 None (body_shape p) × Rest (flat p) (0 + size (body_shape p)) []
both_groups p h =
    groups (flat p) [] Flat.Ends 0 None (body_shape p) [] (proper p.mems p.body (at_start p) h)
    ([], stages_are p h ∙ ap (λ l. stage (leads_on Flat.Ends 0 (body_shape p)) [] None ∷ l) (sym (append-nil (after [] Flat.Ends 0 (body_shape p)))), refl)

-- the stages of a source lie as its body's shape says
pub body_groups : (p : Pipe) → is_forked p.body ≡ true → Groups (flat p) [] Flat.Ends 0 None (body_shape p)
body_groups p h = (both_groups p h).0

-- a source has as many stages as its body's shape
pub body_size : (p : Pipe) → is_forked p.body ≡ true → length (flat p).stages ≡ size (body_shape p)
body_size p h =
    let r = (both_groups p h).1 in
    let e = ap length r.1 in
    let f = length-append r.0 [] in
    let g = r.2 in
    let z : length {A = Flat.Stage} [] ≡ 0 = refl in
    omega arith

-- there is one stage more than there are separators
pub stage_count : (p : Pipe) → is_forked p.body ≡ true → length (flat p).stages ≡ suc (separators p.body)
stage_count p h = body_size p h ∙ size_is p.mems p.body (at_start p) h

-- what is known of each stage of a source
pub knows : (p : Pipe) → is_forked p.body ≡ true → (s : ℕ) → s < length (flat p).stages → Known (flat p) s
knows p h s low =
    let e = body_size p h in
    known (flat p) [] Flat.Ends 0 None (body_shape p) (body_groups p h) (omega arith)
    (λ n i j k. Final j k (omega arith)) (λ n i j. tt) (λ f i. absurd (no_number f i)) s (omega arith) (omega arith)
  where
    no_number : (f : ℕ) → None ≡ Some f → ⊥
    no_number f i = cc
