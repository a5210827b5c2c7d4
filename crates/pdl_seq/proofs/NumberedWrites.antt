-- Writes with the numbers of their threads: they are to words that are there, and their lines are those of the threads.
use Rattle.std.proofs.Common.{◌≡◌, refl, ap, ap₂, ◌∙◌, ℕ, suc, Bool, true, false, if◌then◌else◌, List, [], ◌∷◌, ◌++◌, map, codes}
use Rattle.std.specs.Prelude.{decimal}
use Rattle.std.specs.List.{flat_map}
use Rattle.std.proofs.lemmas.List.Elements.{All-append, All-map, All-nil, All-same}
use Rattle.std.proofs.lemmas.List.Folds.{flat_map-map}
use Rattle.std.proofs.lemmas.Grind.{flat_map-append}
use Rattle.pdl_semantics.specs.Flat.{Pipe, Commit, arrays_of}
use Rattle.pdl_semantics.specs.Tree as tree
use Rattle.pdl_semantics.specs.Flatten.{flat}
use Rattle.pdl_semantics.specs.Sequential.{threads}
use Rattle.pdl_semantics.specs.Lines.{Column, columns, threads_lines, seq_lines}
use Rattle.pdl_seq.specs.declared.commit.Commit as r_commit
use Rattle.pdl_seq.specs.declared.commit.Write as r_write
use Rattle.pdl_seq.specs.Turns.{commits_view}
use Rattle.pdl_seq.specs.Fits.{IsWord, AreCommits, AreWrites}
use Rattle.pdl_seq.specs.Runs.{numbered_write, numbered_writes, write_line}

-- with the writes of one thread more, too, all told writes are to words that are there
pub told_more : (p : Pipe) (n : ℕ) (old new : List r_write.Write) (lent cs : List r_commit.Commit)
    → new ≡ old ++ map (numbered_write n) (commits_view lent) → lent ≡ cs → AreWrites p old
    → AreCommits p (commits_view cs) → AreWrites p new
told_more p n old new lent cs e is before now =
    let P = λ (w : r_write.Write). IsWord p w.mem w.addr w.value in
    All-same P new (old ++ map (numbered_write n) (commits_view cs)) (e ∙ ap (λ (l : List r_commit.Commit). old ++ map (numbered_write n) (commits_view l)) is)
    (All-append P old (map (numbered_write n) (commits_view cs)) before (All-map P (numbered_write n) (commits_view cs) now))

lines_of_threads : (ms : List Column) (n : ℕ) (css : List (List Commit))
    → flat_map (write_line ms) (numbered_writes n css) ≡ threads_lines n ms css
lines_of_threads ms n [] = refl
lines_of_threads ms n (cs ∷ css) =
    flat_map-append (write_line ms) (map (numbered_write n) cs) (numbered_writes (suc n) css)
    ∙ ap₂ (λ a b. a ++ b) (flat_map-map (write_line ms) (numbered_write n) cs) (lines_of_threads ms (suc n) css)

-- the lines of the first k threads' numbered writes, and an end line, are the text of a sequential run
pub told_lines : (p : tree.Pipe) (image : List (List ℕ)) (k : ℕ)
    → flat_map (write_line (columns p.mems)) (numbered_writes 1 (threads (flat p) (arrays_of image) k))
    ++ codes "end threads " ++ decimal k ++ codes "\n" ≡ seq_lines p image k
told_lines p image k =
    ap (λ l. l ++ codes "end threads " ++ decimal k ++ codes "\n") (lines_of_threads (columns p.mems) 1 (threads (flat p) (arrays_of image) k))

-- where nothing is told, all told writes are to words that are there
pub none_told : (p : Pipe) (ws : List r_write.Write) → ws ≡ [] → AreWrites p ws
none_told p ws e =
    let P = λ (w : r_write.Write). IsWord p w.mem w.addr w.value in
    All-same P ws [] e (All-nil P)

-- where all told writes are to words that are there, those are that are left after a run that streams forgets them
pub told_less : (p : Pipe) (streams : Bool) (ws left : List r_write.Write)
    → left ≡ (if streams then [] else ws) → AreWrites p ws → AreWrites p left
told_less p true ws left e told = none_told p left e
told_less p false ws left e told = All-same (λ (w : r_write.Write). IsWord p w.mem w.addr w.value) left ws e told
