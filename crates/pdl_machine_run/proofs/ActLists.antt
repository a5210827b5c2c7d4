-- Lists of acts, and what depends on one of them.
use Rattle.std.proofs.Common.{◌≡◌, refl, sym, ap, ap₂, ◌∙◌, ℕ, zero, suc, ◌+◌, ◌<◌, Bool, true, false, if◌then◌else◌, ◌==◌, List, [], ◌∷◌, ◌++◌, map, Option, Some, None, length, drop, get_or, arith, append-nil, ne_eqb}
use Rattle.std.proofs.lemmas.List.{drop_more}
use Rattle.pdl_semantics.specs.Flat.{Pipe}
use Rattle.pdl_semantics.specs.Machine.{Request}
use Rattle.pdl_semantics.specs.Moves.{Act, is_empty}
use Rattle.pdl_semantics.specs.Cycle.{squasher, squash_stage, entered_branches, asked_of, asked_by, address_of, asked_in}
use Rattle.pdl_machine_run.specs.declared.stage.Awaited as r_awaited
use Rattle.pdl_machine_run.specs.declared.stage.Stage as r_stage
use Rattle.pdl_machine_run.specs.View.{awaited_view}
use Rattle.pdl_machine_run.specs.Acts.{mover_of, act_of, acts_of}
use Rattle.pdl_machine_run.specs.Requests.{address_by}

-- no read is awaited where the list has none
pub nothing_awaited : (xs : List r_awaited.Awaited) (n : ℕ) → n ≡ length xs → (n == 0) ≡ is_empty (map awaited_view xs)
nothing_awaited [] n e = ap (λ i. i == 0) e
nothing_awaited (x ∷ xs) n e = ne_eqb n 0 (λ z. absurd (omega (arith, e, z)))

-- where the thread of a stage squashes nothing, one of the others does or none
pub squasher_on : (k : ℕ) (o : Option ℕ) (x : r_stage.Stage) (more : List Act)
    → squasher (act_of k o x) ≡ None → squasher (act_of k o x ++ more) ≡ squasher more
squasher_on k None x more e = refl
squasher_on k (Some n) x more e = at x.deeds.fails e
  where
    at : (b : Bool) → (if b then Some n else None) ≡ None → (if b then Some n else squasher more) ≡ squasher more
    at true e = absurd (cc e)
    at false e = refl

-- the same of the stage of the thread that does
pub squash_stage_on : (k : ℕ) (o : Option ℕ) (x : r_stage.Stage) (more : List Act)
    → squash_stage (act_of k o x) ≡ None → squash_stage (act_of k o x ++ more) ≡ squash_stage more
squash_stage_on k None x more e = refl
squash_stage_on k (Some n) x more e = at x.deeds.fails e
  where
    at : (b : Bool) → (if b then Some k else None) ≡ None → (if b then Some k else squash_stage more) ≡ squash_stage more
    at true e = absurd (cc e)
    at false e = refl

-- the address that is asked for is that of the port
pub address_is : (m : ℕ) (ms : List Act) → address_by m ms None ≡ asked_in ms m
address_is m [] = refl
address_is m (a ∷ ms) = ap (address_of m a.does.asks) (address_is m ms)

asked_both : (m : ℕ) (as' bs : List Act) (old : Request) → asked_by m (as' ++ bs) old ≡ asked_by m as' (asked_by m bs old)
asked_both m [] bs old = refl
asked_both m (a ∷ as') bs old = ap (asked_of m a.thread.number a.does.asks) (asked_both m as' bs old)

-- the request after those of a stage and of the later ones
pub asked_here : (m j : ℕ) (xs : List r_stage.Stage) (x : r_stage.Stage) (old now new : Request) → j < length xs → x ≡ get_or xs j x
    → now ≡ asked_by m (acts_of (j + 1) (drop (j + 1) xs)) old → new ≡ asked_by m (act_of j (mover_of x) x) now
    → new ≡ asked_by m (acts_of j (drop j xs)) old
asked_here m j xs x old now new there is done e =
    let up : suc j ≡ j + 1 = omega arith in
    let split : acts_of j (drop j xs) ≡ act_of j (mover_of x) x ++ acts_of (j + 1) (drop (j + 1) xs) =
    ap (acts_of j) (drop_more xs j x there) ∙ ap (λ (y : r_stage.Stage). act_of j (mover_of y) y ++ acts_of (suc j) (drop (j + 1) xs)) (sym is)
    ∙ ap (λ k. act_of j (mover_of x) x ++ acts_of k (drop (j + 1) xs)) up in
    e
    ∙ ap (asked_by m (act_of j (mover_of x) x)) done
    ∙ sym (ap (λ (ms : List Act). asked_by m ms old) split ∙ asked_both m (act_of j (mover_of x) x) (acts_of (j + 1) (drop (j + 1) xs)) old)

-- WHO GOES INTO A FORK'S BRANCHES

module _ (p : Pipe) (f : ℕ) where
  entered_more : (k : ℕ) (o : Option ℕ) (x : r_stage.Stage) (more : List Act)
      → entered_branches p f (act_of k o x ++ more) ≡ entered_branches p f more ++ entered_branches p f (act_of k o x)
  entered_more k None x more = sym (append-nil (entered_branches p f more))
  entered_more k (Some n) x more = refl

  entered_apart : (k : ℕ) (o : Option ℕ) (x : r_stage.Stage) → (k == f) ≡ false → entered_branches p f (act_of k o x) ≡ []
  entered_apart k None x e = refl
  entered_apart k (Some n) x e = rw e refl

  entered_none : (k : ℕ) (zs : List r_stage.Stage) → f < k → entered_branches p f (acts_of k zs) ≡ []
  entered_none k [] h = refl
  entered_none k (z ∷ zs) h =
      let apart : (k == f) ≡ false = ne_eqb k f (λ e. absurd (omega (arith, e))) in
      entered_more k (mover_of z) z (acts_of (suc k) zs)
      ∙ ap₂ (λ (a b : List Bool). a ++ b) (entered_none (suc k) zs (omega arith)) (entered_apart k (mover_of z) z apart)

  -- who goes into a fork's branches is who moves out of the stage of the fork
  pub entered_at : (i k : ℕ) (zs : List r_stage.Stage) (d : r_stage.Stage) → k + i ≡ f → i < length zs
      → entered_branches p f (acts_of k zs) ≡ entered_branches p f (act_of f (mover_of (get_or zs i d)) (get_or zs i d))
  entered_at i k [] d e h = absurd (omega arith)
  entered_at zero k (z ∷ zs) d e h =
      let same : k ≡ f = omega arith in
      entered_more k (mover_of z) z (acts_of (suc k) zs)
      ∙ ap (λ (a : List Bool). a ++ entered_branches p f (act_of k (mover_of z) z)) (entered_none (suc k) zs (omega arith))
      ∙ ap (λ j. entered_branches p f (act_of j (mover_of z) z)) same
  entered_at (suc i) k (z ∷ zs) d e h =
      let apart : (k == f) ≡ false = ne_eqb k f (λ same. absurd (omega (arith, e, same))) in
      entered_more k (mover_of z) z (acts_of (suc k) zs)
      ∙ ap₂ (λ (a b : List Bool). a ++ b) (entered_at i (suc k) zs d (omega arith) (omega arith)) (entered_apart k (mover_of z) z apart)
      ∙ append-nil _

-- only who moves out of a fork's stage goes into its branches
pub entered_here : (p : Pipe) (f : ℕ) (zs : List r_stage.Stage) (x : r_stage.Stage)
    → f < length zs → x ≡ get_or zs f x
    → entered_branches p f (acts_of 0 zs) ≡ entered_branches p f (act_of f (mover_of x) x)
entered_here p f zs x h e = entered_at p f f 0 zs x (omega arith) h ∙ ap (λ (y : r_stage.Stage). entered_branches p f (act_of f (mover_of y) y)) (sym e)
