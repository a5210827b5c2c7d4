-- The lines of a sequential run.
use Rattle.std.proofs.Common.{◌≡◌, ◌∙◌, refl, ap, ap₂, sym, subst, arith, ℕ, zero, suc, ◌+◌, ◌<◌, true, List, [], ◌∷◌, ◌++◌, All, append_assoc, map, length, get_or, slice_index_or, codes}
use Rattle.std.specs.Prelude.{Option, decimal}
use Rattle.std.specs.List.{flat_map}
use Rattle.std.proofs.lemmas.Grind.{flat_map-append}
use Rattle.pdl_kit.specs.Sinks.{TakesPrefix}
use Rattle.pdl_kit.specs.declared.mem_info.MemInfo.{MemInfo}
use Rattle.pdl_semantics.specs.Tree as tree
use Rattle.pdl_semantics.specs.Flat.{Arrays, Pipe, arrays_of}
use Rattle.pdl_semantics.specs.Flatten.{flat}
use Rattle.pdl_semantics.specs.Sequential.{threads}
use Rattle.pdl_semantics.specs.Lines.{Column, column_at, columns}
use Rattle.pdl_form.specs.FormView.{form}
use Rattle.pdl_law_parts.specs.Runs.{column_of}
use Rattle.pdl_seq.specs.declared.commit.Write.{Write}
use Rattle.pdl_seq.specs.Fits.{AreWrites}
use Rattle.pdl_seq.specs.Runs.{Running, HasRun, numbered_writes, told_writes, write_line}
use Rattle.pdl_seq.proofs.Threads.{last_after}
use Rattle.pdl_trace.specs.Passed.{HasPassed}
use Rattle.pdl_trace.proofs.BytePieces.{passed_more, prefix_on, prefix_front}
use Rattle.pdl_cli_commands.proofs.AcceptedNetlists.{told_columns}
use Rattle.pdl_rules.specs.Memories.{infos_of}

-- the memory of a number as lines show it
pub column_is : (ms : List MemInfo) (i : ℕ) (m : MemInfo) → i < length ms → m ≡ get_or ms i m → column_at (map column_of ms) i ≡ column_of m
column_is [] i m h e = absurd (omega arith)
column_is (x ∷ xs) zero m h e = ap column_of (sym e)
column_is (x ∷ xs) (suc i) m h e = column_is xs i m (omega arith) e

-- each write is to one of the memories
pub all_there : (p : Pipe) (ws : List Write) (n : ℕ) → length p.mems ≡ n → AreWrites p ws → All (λ w. w.mem < n) ws
all_there p ws n e h k d l = subst (λ x. (slice_index_or ws k d).mem < x) e (h k d l).0

-- the lines of the writes of k threads
abbrev pub texts : List Column → Pipe → Arrays → ℕ → List ℕ
texts cs p arrays k = flat_map (write_line cs) (numbered_writes 1 (threads p arrays k))

-- those of a thread more
texts_next : (cs : List Column) (p : Pipe) (arrays : Arrays) (k : ℕ)
    → texts cs p arrays (suc k) ≡ texts cs p arrays k ++ flat_map (write_line cs) (told_writes true p arrays (suc k))
texts_next cs p arrays k =
    ap (flat_map (write_line cs)) (last_after p arrays k)
    ∙ flat_map-append (write_line cs) (numbered_writes 1 (threads p arrays k)) (told_writes true p arrays (suc k))

-- what a run that streams tells after one thread more
pub told_piece : (cs : List Column) (r : Running) (image : List (List ℕ)) (p : Pipe) (k : ℕ) (ws : List Write)
    → HasRun r image → r.streams ≡ true → (form r.pipe).pipe ≡ p → r.run ≡ k + 1 → ws ≡ r.writes
    → texts cs p (arrays_of image) k ++ flat_map (write_line cs) ws ≡ texts cs p (arrays_of image) (k + 1)
told_piece cs r image p k ws has streams same count lent =
    let a : Arrays = arrays_of image in
    let next : k + 1 ≡ suc k = omega arith in
    let told : ws ≡ told_writes true p a (suc k) =
    lent ∙ has.writes ∙ ap (λ b. told_writes b (form r.pipe).pipe a r.run) streams ∙ ap₂ (λ (q : Pipe) n. told_writes true q a n) same (count ∙ next) in
    ap (λ l. texts cs p a k ++ flat_map (write_line cs) l) told ∙ sym (texts_next cs p a k) ∙ ap (texts cs p a) (sym next)

-- a prefix of the lines of some threads is one of those of more threads
pub prefix_grows : (old new : Option (List ℕ)) (held : List ℕ) (cs : List Column) (p : Pipe) (arrays : Arrays) (k d n : ℕ)
    → n ≡ d + k → TakesPrefix old new (held ++ texts cs p arrays k) → TakesPrefix old new (held ++ texts cs p arrays n)
prefix_grows old new held cs p arrays k zero n e t =
    let same : k ≡ n = omega arith in
    subst (λ i. TakesPrefix old new (held ++ texts cs p arrays i)) same t
prefix_grows old new held cs p arrays k (suc d) n e t =
    let last : suc (d + k) ≡ n = omega arith in
    let before = prefix_grows old new held cs p arrays k d (d + k) refl t in
    let more : List ℕ = flat_map (write_line cs) (told_writes true p arrays (suc (d + k))) in
    subst (λ i. TakesPrefix old new (held ++ texts cs p arrays i)) last
    (subst (TakesPrefix old new) (ap (λ l. held ++ l) (sym (texts_next cs p arrays (d + k))))
    (prefix_front old new held (texts cs p arrays (d + k)) more before))

module _ (o a b : Option (List ℕ)) (held middle piece front next : List ℕ) (e : front ++ piece ≡ next) (so_far : HasPassed o a (held ++ front) middle) where
  joined : (held ++ front) ++ piece ≡ held ++ next
  joined = append_assoc held front piece ∙ ap (λ l. held ++ l) e

  -- the lines of a thread more are passed on
  pub thread_on : (after : List ℕ) → HasPassed a b (middle ++ piece) after → HasPassed o b (held ++ next) after
  thread_on after more = subst (λ l. HasPassed o b l after) joined (passed_more o a b (held ++ front) middle piece so_far after more)

  -- where the lines of a thread more fail on their way, a prefix of all lines was passed on
  pub thread_off : TakesPrefix a b (middle ++ piece) → TakesPrefix o b (held ++ next)
  thread_off t = subst (TakesPrefix o b) joined (prefix_on o a b (held ++ front) middle piece so_far t)

-- the last line after others
pub last_line : (front : List ℕ) (k : ℕ)
    → front ++ (codes "end threads " ++ decimal k ++ codes "\n") ≡ front ++ codes "end threads " ++ decimal k ++ codes "\n"
last_line front k =
    sym (append_assoc front (codes "end threads " ++ decimal k) (codes "\n"))
    ∙ ap (λ l. l ++ codes "\n") (sym (append_assoc front (codes "end threads ") (decimal k)))

-- the lines of the writes, and the last line
pub printed : (p : tree.Pipe) (image : List (List ℕ)) (k : ℕ) (ms : List MemInfo) (q : Pipe)
    → ms ≡ infos_of p.mems → q ≡ flat p
    → texts (map column_of ms) q (arrays_of image) k ++ codes "end threads " ++ decimal k
    ++ codes "\n" ≡ texts (columns p.mems) (flat p) (arrays_of image) k ++ codes "end threads " ++ decimal k
    ++ codes "\n"
printed p image k ms q told flattened =
    ap₂ (λ cs (x : Pipe). texts cs x (arrays_of image) k ++ codes "end threads " ++ decimal k ++ codes "\n")
    (ap (map column_of) told ∙ told_columns p.mems) flattened
