-- The stage of a flat statement is the one that the rules speak of: that of the last separator before its place whose branches it stands in too.
use Rattle.std.proofs.Common.{◌≡◌, refl, sym, ◌∙◌, subst, suc, Bool, true, false, ◌&&◌, ◌||◌, List, [], ◌∷◌, ◌++◌, arith}
use Rattle.std.proofs.lemmas.Bool.{and_parts}
use Rattle.pdl_semantics.specs.Tree.{Span, Stmt, Separator, If, Stmts, Nil, Cons, Mem, Pipe}
use Rattle.pdl_semantics.specs.Flat
use Rattle.pdl_semantics.specs.Flatten.{with_guard, past, at_otherwise, under, separators_in, separators, at_start}
use Rattle.pdl_semantics.specs.Flatten
use Rattle.pdl_rules.specs.Places.{Place, Statement, Branch, with_inner, statements}
use Rattle.pdl_rules.specs.Stages.{stage_in}
use Rattle.pdl_source_stages.proofs.Sites.{Site, branch, sites_in, sites, sites_of, front_of, All, all_append}
use Rattle.pdl_source_stages.proofs.Walks.{guard_stage, Begun, begun_passes, begun_first, begun_second, at_front, cut, cut_append, cut_in, cut_all}
use Rattle.pdl_source_stages.proofs.Shapes.{is_whole, begins_stage, is_forked, is_late, late_forked}
use Rattle.pdl_source_stages.proofs.SiteStages.{none_of_whole, fitting}
use Rattle.pdl_source_stages.proofs.TextStages.{from_none, Reads, reads_here, reads_none, reads_inner, reads_cut, reads_first, reads_second, past_if}

-- the stage of a site by the text is that of its flat statements
abbrev pub Staged : Site → Type 0
Staged t = stage_in t.front t.branches ≡ t.walk.stage

-- statements that begin no stage
mutual
  none_in : (ms : List Mem) (front : List Place) (w : Flatten.Position) (gs : List Flat.Guard) (bs : List Branch) (s : Stmt)
      → separators_in s ≡ 0 → Reads front bs w.stage → All Staged (sites_in ms front w gs bs s)
  none_in ms front w gs bs (If sp c when otherwise) e h =
      let g = cut_all (bs ++ branch sp c true when ∷ []) when in
      let i = cut_append (Statement (If sp c when otherwise) bs ∷ []) (statements (bs ++ branch sp c true when ∷ []) when) in
      let j : cut (Statement (If sp c when otherwise) bs ∷ []) ≡ 0 = refl in (
        reads_here front bs w.stage h,
        all_append Staged
            (sites ms (front ++ Statement (If sp c when otherwise) bs ∷ []) (with_guard c w) (under gs w.vars c true) (bs ++ branch sp c true when ∷ []) when) _
            (none_all ms (front ++ Statement (If sp c when otherwise) bs ∷ []) (with_guard c w) (under gs w.vars c true)
            (bs ++ branch sp c true when ∷ []) when (omega arith)
            (subst (Reads (front ++ Statement (If sp c when otherwise) bs ∷ []) (bs ++ branch sp c true when ∷ [])) (sym (guard_stage c w))
            (reads_inner (front ++ Statement (If sp c when otherwise) bs ∷ []) bs (branch sp c true when) w.stage
            (reads_none front (Statement (If sp c when otherwise) bs ∷ []) bs w.stage j h))))
            (none_all ms (front ++ Statement (If sp c when otherwise) bs ∷ statements (bs ++ branch sp c true when ∷ []) when)
            (at_otherwise ms c when w) (under gs w.vars c false)
            (bs ++ branch sp c false otherwise ∷ []) otherwise (omega arith)
            (reads_inner
            (front ++ Statement (If sp c when otherwise) bs ∷ statements (bs ++ branch sp c true when ∷ []) when) bs
            (branch sp c false otherwise) w.stage
            (reads_none front (Statement (If sp c when otherwise) bs ∷ statements (bs ++ branch sp c true when ∷ []) when) bs w.stage (omega arith) h))),
      )
  none_in ms front w gs bs s e h = (reads_here front bs w.stage h, tt)

  none_all : (ms : List Mem) (front : List Place) (w : Flatten.Position) (gs : List Flat.Guard) (bs : List Branch) (ss : Stmts)
      → separators ss ≡ 0 → Reads front bs w.stage → All Staged (sites ms front w gs bs ss)
  none_all ms front w gs bs Nil e h = tt
  none_all ms front w gs bs (Cons s ss) e h =
      let f = cut_in bs s in
      all_append Staged (sites_in ms front w gs bs s) _
      (none_in ms front w gs bs s (omega arith) h)
      (none_all ms (front ++ with_inner bs s) (past ms s w) gs bs ss (omega arith)
      (subst (Reads (front ++ with_inner bs s) bs) (sym (none_past ms w s (omega arith))) (reads_none front (with_inner bs s) bs w.stage (omega arith) h)))

  none_past : (ms : List Mem) (w : Flatten.Position) (s : Stmt) → separators_in s ≡ 0 → (past ms s w).stage ≡ w.stage
  none_past ms w (Separator sp) e = absurd (omega arith)
  none_past ms w s e = refl

-- the stage of a separator
cut_begun : (front : List Place) (w : Flatten.Position) (bs : List Branch) (sp : Span) → Begun front w
    → Reads (front ++ Statement (Separator sp) bs ∷ []) bs (suc w.begun)
cut_begun front w bs sp b cs = reads_cut front bs sp cs ∙ (let e : w.begun ≡ cut front = b in let f : suc (cut front) ≡ suc w.begun = omega arith in f)

-- each site of statements in form stands in the stage that the text before it tells
forked_staged : (ms : List Mem) (front : List Place) (w : Flatten.Position) (gs : List Flat.Guard) (bs : List Branch) (ss : Stmts)
    → is_forked ss ≡ true → Begun front w → Reads front bs w.stage → All Staged (sites ms front w gs bs ss)
forked_staged ms front w gs bs Nil h b r = tt
forked_staged ms front w gs bs (Cons (Separator sp) ss) h b r = (
  reads_here front bs w.stage r,
  forked_staged ms (front ++ Statement (Separator sp) bs ∷ []) (past ms (Separator sp) w) gs bs ss h
      (begun_passes ms front w bs (Separator sp) b) (cut_begun front w bs sp b),
)
forked_staged ms front w gs bs (Cons (If sp c when otherwise) (Cons (Separator sq) ss)) h b r =
    all_append Staged (sites_in ms front w gs bs (If sp c when otherwise)) _
    (at (is_whole when otherwise) refl parts.0
    (λ i. forked_staged ms (front ++ Statement (If sp c when otherwise) bs ∷ []) (with_guard c w) (under gs w.vars c true)
    (bs ++ branch sp c true when ∷ []) when (late_forked when i) (begun_first front w bs sp c when otherwise b)
    (subst (Reads (front ++ Statement (If sp c when otherwise) bs ∷ []) (bs ++ branch sp c true when ∷ [])) (sym (guard_stage c w))
    (reads_first front bs sp c when otherwise w.stage r)))
    (λ i. forked_staged ms (front ++ Statement (If sp c when otherwise) bs ∷ statements (bs ++ branch sp c true when ∷ []) when)
    (at_otherwise ms c when w) (under gs w.vars c false)
    (bs ++ branch sp c false otherwise ∷ []) otherwise (late_forked otherwise i) (begun_second ms front w bs sp c when otherwise b)
    (reads_second front bs sp c when otherwise w.stage r))) (
      past_if front bs sp c when otherwise ∙ reads_here front bs w.stage r,
      forked_staged ms ((front ++ with_inner bs (If sp c when otherwise)) ++ Statement (Separator sq) bs ∷ [])
          (past ms (Separator sq) (past ms (If sp c when otherwise) w)) gs bs ss parts.1
          (begun_passes ms (front ++ with_inner bs (If sp c when otherwise)) (past ms (If sp c when otherwise) w) bs (Separator sq) begun)
          (cut_begun (front ++ with_inner bs (If sp c when otherwise)) (past ms (If sp c when otherwise) w) bs sq begun),
    )
  where
    parts : ((is_whole when otherwise || (true && (is_late when && is_late otherwise))) ≡ true) × (is_forked ss ≡ true)
    parts = and_parts (is_whole when otherwise || (true && (is_late when && is_late otherwise))) (is_forked ss) h

    begun : Begun (front ++ with_inner bs (If sp c when otherwise)) (past ms (If sp c when otherwise) w)
    begun = begun_passes ms front w bs (If sp c when otherwise) b

    at : (w' : Bool) → is_whole when otherwise ≡ w' → (w' || (true && (is_late when && is_late otherwise))) ≡ true
        → (is_late when ≡ true
        → All Staged
        (sites ms (front ++ Statement (If sp c when otherwise) bs ∷ []) (with_guard c w) (under gs w.vars c true) (bs ++ branch sp c true when ∷ []) when))
        → (is_late otherwise ≡ true
        → All Staged
        (sites ms (front ++ Statement (If sp c when otherwise) bs ∷ statements (bs ++ branch sp c true when ∷ []) when)
        (at_otherwise ms c when w) (under gs w.vars c false) (bs ++ branch sp c false otherwise ∷ []) otherwise))
        → All Staged (sites_in ms front w gs bs (If sp c when otherwise))
    at true e f one two = none_in ms front w gs bs (If sp c when otherwise) (none_of_whole when otherwise e) r
    at false e f one two =
        let late = and_parts (is_late when) (is_late otherwise) f in (
          reads_here front bs w.stage r,
          all_append Staged
              (sites ms (front ++ Statement (If sp c when otherwise) bs ∷ []) (with_guard c w) (under gs w.vars c true)
              (bs ++ branch sp c true when ∷ []) when) _
              (one late.0) (two late.1),
        )
forked_staged ms front w gs bs (Cons (If sp c when otherwise) ss) h b r =
    let parts = and_parts (is_whole when otherwise || (begins_stage ss && (is_late when && is_late otherwise))) (is_forked ss) h in
    let none = none_of_whole when otherwise (fitting when otherwise ss refl (is_whole when otherwise) parts.0) in
    let f = cut_in bs (If sp c when otherwise) in
    all_append Staged (sites_in ms front w gs bs (If sp c when otherwise)) _
    (none_in ms front w gs bs (If sp c when otherwise) none r)
    (forked_staged ms (front ++ with_inner bs (If sp c when otherwise)) (past ms (If sp c when otherwise) w) gs bs ss parts.1
    (begun_passes ms front w bs (If sp c when otherwise) b)
    (reads_none front (with_inner bs (If sp c when otherwise)) bs w.stage (omega arith) r))
forked_staged ms front w gs bs (Cons s ss) h b r = (
  reads_here front bs w.stage r,
  forked_staged ms (front ++ with_inner bs s) (past ms s w) gs bs ss h (begun_passes ms front w bs s b) (reads_none front (with_inner bs s) bs w.stage refl r),
)

-- each site of a source stands in the stage that the text before it tells
pub all_staged : (p : Pipe) → is_forked p.body ≡ true → All Staged (sites_of p)
all_staged p h =
    forked_staged p.mems (front_of p) (at_start p) [] [] p.body h (at_front p).begun (λ cs. from_none 0 0 cs (front_of p) (sym (at_front p).begun))
