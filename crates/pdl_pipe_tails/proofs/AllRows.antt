-- The tails of all stages up to that of the verifies, one stage after the other.
use Rattle.std.proofs.Common.{◌≡◌, refl, sym, ap, ap₂, ◌∙◌, subst, ℕ, suc, ◌+◌, ◌<◌, ◌≤◌, ◌⊎◌, inl, inr, List, [], ◌∷◌, ◌++◌, length, get_or, arith}
use Rattle.std.proofs.lemmas.Bool.{cases_lt}
use Rattle.std.proofs.lemmas.List.{get_or_append_left, get_or_push, get_or_default, get_or_past}
use Rattle.std.specs.Prelude.{Option, Some, None}
use Rattle.pdl_kit.specs.declared.seq.Seq.{Seq}
use Rattle.pdl_semantics.specs.Stages.{verify_stage}
use Rattle.pdl_semantics.specs.Updates.{update_stage}
use Rattle.pdl_semantics.proofs.SquashStages.{update_before}
use Rattle.pdl_net.specs.declared.Net.{Net}
use Rattle.pdl_net.specs.Circuit.{Circuit}
use Rattle.pdl_net.specs.Signal.{Signal}
use Rattle.pdl_net.specs.Meaning.{IsThere, signal}
use Rattle.pdl_net.specs.Growth.{Keeps, Extends}
use Rattle.pdl_net.proofs.Keeps.{extends_keeps}
use Rattle.pdl_pipe_exprs.specs.Nets.{NetsThere, signals_in, signal_at, widths_of}
use Rattle.pdl_pipe_exprs.proofs.NetLists.{signals_keep, length_signals}
use Rattle.pdl_pipe_nexts.proofs.pipe_registers.Lists.{up_to}
use Rattle.pdl_pipe_nexts.proofs.pipe_registers.Begins.{next_keep}
use Rattle.pdl_pipe_nexts.specs.declared.line.StageLine.{StageLine}
use Rattle.pdl_pipe_walk.specs.Guesses.{choices}
use Rattle.pdl_pipe_nexts.specs.Lines.{line_form, line_pipe, IsLineIn}
use Rattle.pdl_pipe_tails.specs.Reserved.{AreAfterAll}
use Rattle.pdl_pipe_tails.specs.Carried.{tail_in, HaveTails}
use Rattle.pdl_pipe_tails.specs.Tails.{AreStageTails, IsCut, IsLike, IsRow}
use Rattle.pdl_pipe_tails.proofs.Rows.{stage_keep, stage_as, stage_from}

-- the first n stages have their tails
abbrev pub FirstRows : Circuit → Circuit → StageLine → List (Seq Net) → ℕ → Type 0
FirstRows a c x rows n = (j : ℕ) → j < n → AreStageTails a c x (tail_in c rows []) j (get_or rows j [])

-- each of the first n stages has a tail of each memory
pub have_rows : (a c : Circuit) (x : StageLine) (fresh : List Net) (rows : List (Seq Net)) (n m : ℕ)
    → length rows ≡ n → Keeps a c → IsLineIn a x → AreAfterAll c c x fresh → m < length fresh → FirstRows a c x rows n
    → HaveTails c m (signal_at (signals_in c fresh) m).width rows
have_rows a c x fresh rows n m count e line after low h k l =
    let row = h k (omega (arith, l, count)) in
    let long = row.count in
    let wide = after.count in
    let under : m < length (get_or rows k []) = omega (arith, long, wide, low) in
    record {
      there = row.there;
      low = under;
      wide =
          (row.each m under).wide
          ∙ sym (ap (λ fs. (signal_at fs m).width) (next_keep a c (line_form x) x.shared.now e line.shared))
          ∙ sym (after.after m low).wide;
    }

-- a tail is the same in a later circuit, and in a longer list
tail_same : (c d : Circuit) (rows others : List (Seq Net)) (last : List Net) (j m : ℕ) → Keeps c d
    → NetsThere c (get_or rows j []) → get_or others j last ≡ get_or rows j []
    → tail_in d others last j m ≡ tail_in c rows [] j m
tail_same c d rows others last j m e there same =
    ap (λ (row : List Net). signal_at (signals_in d row) m) same ∙ ap (λ fs. signal_at fs m) (signals_keep c d (get_or rows j []) e there)

-- the tails of the first n stages are the same in a circuit that grew, by lists that begin alike
pub tails_same : (a c d : Circuit) (x : StageLine) (rows others : List (Seq Net)) (last : List Net) (n : ℕ) → Keeps c d
    → FirstRows a c x rows n → ((j : ℕ) → j < n → get_or others j last ≡ get_or rows j []) → (j m : ℕ) → j < n
    → tail_in d others last j m ≡ tail_in c rows [] j m
tails_same a c d x rows others last n e h same j m l = tail_same c d rows others last j m e (h j l).there (same j l)

row_later : (a c d : Circuit) (x : StageLine) (rows others : List (Seq Net)) (last : List Net) (n : ℕ) → Extends c d
    → FirstRows a c x rows n → ((j : ℕ) → j < n → get_or others j last ≡ get_or rows j []) → (k : ℕ) → k < n
    → AreStageTails a d x (tail_in d others last) k (get_or others k last)
row_later a c d x rows others last n e h same k l =
    subst (AreStageTails a d x (tail_in d others last) k) (sym (same k l))
    (stage_as a d x (tail_in c rows []) (tail_in d others last) k (get_or rows k [])
    (λ j m low q. sym (tails_same a c d x rows others last n (extends_keeps c d e) h same j m (omega (arith, low, l))))
    (stage_keep a c d x (tail_in c rows []) k (get_or rows k []) e (h k l)))

-- the nets of the first n stages are the same in a list with those of one stage more
pub same_front : (rows : List (Seq Net)) (new : Seq Net) (n : ℕ)
    → length rows ≡ n → (j : ℕ) → j < n → get_or (rows ++ new ∷ []) j [] ≡ get_or rows j []
same_front rows new n count j l = get_or_append_left rows (new ∷ []) [] j (omega (arith, l, count))

-- the nets of the first n stages are the same, whatever stands for a stage without
pub same_before : (rows : List (Seq Net)) (last : List Net) (n : ℕ)
    → length rows ≡ n → (j : ℕ) → j < n → get_or rows j last ≡ get_or rows j []
same_before rows last n count j l = get_or_default rows j last [] (omega (arith, l, count))

-- with the tails of one stage more, the first n + 1 stages have theirs
pub rows_more : (a c d : Circuit) (x : StageLine) (rows : List (Seq Net)) (new : Seq Net) (n : ℕ)
    → length rows ≡ n → Extends c d → FirstRows a c x rows n
    → AreStageTails a d x (tail_in d (rows ++ new ∷ []) []) n new → FirstRows a d x (rows ++ new ∷ []) (n + 1)
rows_more a c d x rows new n count e h here =
    up_to (λ j. AreStageTails a d x (tail_in d (rows ++ new ∷ []) []) j (get_or (rows ++ new ∷ []) j [])) n
    (row_later a c d x rows (rows ++ new ∷ []) [] n e h (same_front rows new n count))
    (subst (AreStageTails a d x (tail_in d (rows ++ new ∷ []) []) n) (sym (get_or_push rows new [] n count)) here)

-- with the tails of stage V, made where the earlier stages have these, the first V + 1 stages have theirs
pub rows_full : (a c d : Circuit) (x : StageLine) (rows : List (Seq Net)) (last : Seq Net) (v : ℕ)
    → length rows ≡ v → Keeps a c → IsLineIn a x → Extends c d → FirstRows a c x rows v
    → ((tails : ℕ → ℕ → Signal) → ((j m : ℕ) → j < v → tails j m ≡ tail_in c rows [] j m) → AreStageTails c d x tails v last)
    → FirstRows a d x (rows ++ last ∷ []) (v + 1)
rows_full a c d x rows last v count ac line e h made =
    let longer = rows ++ last ∷ [] in
    rows_more a c d x rows last v count e h
    (stage_from a c d x (tail_in d longer []) v last ac line
    (made (tail_in d longer []) (λ j m l. tails_same a c d x rows longer [] v (extends_keeps c d e) h (same_front rows last v count) j m l)))

-- ---- as wide as the next tickets

widths_as : (fs gs : List Signal)
    → length fs ≡ length gs → ((m : ℕ) → m < length fs → (signal_at fs m).width ≡ (signal_at gs m).width)
    → widths_of fs ≡ widths_of gs
widths_as [] [] n h = refl
widths_as [] (g ∷ gs) n h = absurd (omega (arith, n))
widths_as (f ∷ fs) [] n h = absurd (omega (arith, n))
widths_as (f ∷ fs) (g ∷ gs) n h = ap₂ (λ w ws. w ∷ ws) (h 0 (omega arith)) (widths_as fs gs (omega (arith, n)) (λ m l. h (suc m) (omega (arith, l))))

-- the tails of a stage are a net for each memory, as wide as its lock's next ticket
pub row_is : (a c : Circuit) (x : StageLine) (tails : ℕ → ℕ → Signal) (k : ℕ) (nets : List Net)
    → AreStageTails a c x tails k nets → IsRow a c x nets
row_is a c x tails k nets h =
    let n = length_signals c nets in
    let p = length_signals a x.shared.now.next in
    let q = h.count in
    record {
      there = h.there;
      wide = widths_as (signals_in c nets) (signals_in a x.shared.now.next) (omega (arith, n, p, q)) (λ m l. (h.each m (omega (arith, l, n))).wide);
    }

-- ---- all stages up to V

-- the nets of the first stages and of stage V, whether they stand in one list or V's stand for a stage without
pub same_all : (rows : List (Seq Net)) (last : Seq Net) (v : ℕ)
    → length rows ≡ v → (j : ℕ) → j < v + 1 → get_or rows j last ≡ get_or (rows ++ last ∷ []) j []
same_all rows last v count j l = at (cases_lt j v)
  where
    at : (j < v) ⊎ (v ≤ j) → get_or rows j last ≡ get_or (rows ++ last ∷ []) j []
    at (inl q) = same_before rows last v count j q ∙ sym (same_front rows last v count j q)
    at (inr q) =
        let here : v ≡ j = omega (arith, q, l) in
        subst (λ i. get_or rows i last ≡ get_or (rows ++ last ∷ []) i []) here
        (get_or_past rows v last (omega (arith, count)) ∙ sym (get_or_push rows last [] v count))

-- with the tails of stage V, all stages up to it have theirs, in a circuit that grew
pub rows_all : (a c d : Circuit) (x : StageLine) (rows : List (Seq Net)) (last : Seq Net) (v : ℕ)
    → length rows ≡ v → Extends c d → FirstRows a c x (rows ++ last ∷ []) (v + 1) → (k : ℕ) → k ≤ v
    → AreStageTails a d x (tail_in d rows last) k (get_or rows k last)
rows_all a c d x rows last v count e h k l =
    row_later a c d x (rows ++ last ∷ []) rows last (v + 1) e h (same_all rows last v count) k (omega (arith, l))

-- a stage before V has tails as wide as V's
pub like_last : (a c : Circuit) (x : StageLine) (rows : List (Seq Net)) (last : Seq Net) (v u : ℕ)
    → length rows ≡ v → u < v → FirstRows a c x (rows ++ last ∷ []) (v + 1) → IsLike c rows last u
like_last a c x rows last v u count l h =
    let early = row_is a c x (tail_in c (rows ++ last ∷ []) []) u (get_or (rows ++ last ∷ []) u []) (h u (omega (arith, l))) in
    let own = row_is a c x (tail_in c (rows ++ last ∷ []) []) v (get_or (rows ++ last ∷ []) v []) (h v (omega arith)) in
    let same = same_front rows last v count u l in
    record {
      low = omega (arith, l, count);
      there = subst (NetsThere c) same early.there;
      wide =
          ap (λ (ns : List Net). widths_of (signals_in c ns)) (sym same)
          ∙ early.wide
          ∙ sym own.wide
          ∙ ap (λ (ns : List Net). widths_of (signals_in c ns)) (get_or_push rows last [] v count);
    }

-- where the locks are cut is told by the same signals in a circuit that grew
pub cut_later : (c d : Circuit) (x : StageLine) (verify : Net) (rows : List (Seq Net)) (last : Seq Net) (cut : List Net) (v : ℕ)
    → length rows ≡ v → verify_stage (line_pipe x).stmts ≡ Some v → Keeps c d → IsThere c verify
    → (a : Circuit) → FirstRows a c x (rows ++ last ∷ []) (v + 1)
    → IsCut c d verify rows last cut (update_stage (line_pipe x).stmts) → IsCut d d verify rows last cut (update_stage (line_pipe x).stmts)
cut_later c d x verify rows last cut v count is e there a h = at (update_stage (line_pipe x).stmts) refl
  where
    own : NetsThere c last
    own = subst (NetsThere c) (get_or_push rows last [] v count) (h v (omega arith)).there

    at : (o : Option ℕ) → update_stage (line_pipe x).stmts ≡ o → IsCut c d verify rows last cut o → IsCut d d verify rows last cut o
    at None f k = k
    at (Some u) f k =
        let early : u < v = update_before (line_pipe x).stmts u v f is in
        let like = like_last a c x rows last v u count early h in
        k
        ∙ ap (λ o. choices o (signals_in c last) (signals_in c (get_or rows u []))) (sym (e.kept verify there))
        ∙ ap₂ (choices (signal d verify)) (sym (signals_keep c d last e own)) (sym (signals_keep c d (get_or rows u []) e like.there))
