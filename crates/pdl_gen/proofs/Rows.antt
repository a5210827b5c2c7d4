-- The first generated runs.
use Rattle.std.proofs.Common.{◌≡◌, refl, [], ◌∷◌, ◌++◌, codes}
use Rattle.std.specs.Fmt.{digits}
use Rattle.pdl_semantics.specs.Tree.{Queue, Bypass, Rename}
use Rattle.pdl_gen.specs.Generated.{number, stages, kind, step, source, words, first_line}

two_stages : stages 0 ≡ 2
two_stages = refl

three_stages : stages 1 ≡ 3
three_stages = refl

kind_0 : kind 0 ≡ Queue
kind_0 = refl

kind_1 : kind 1 ≡ Bypass
kind_1 = refl

kind_2 : kind 2 ≡ Rename
kind_2 = refl

-- y_1 is even of each of these
step_0 : step 0 ≡ 1
unfolding number
step_0 = refl

step_1 : step 1 ≡ 199
unfolding number
step_1 = refl

step_2 : step 2 ≡ 141
unfolding number
step_2 = refl

words_0 : words 0 ≡ 220 ∷ 4 ∷ 101 ∷ 170 ∷ 31 ∷ 173 ∷ 29 ∷ 90 ∷ 218 ∷ 229 ∷ 172 ∷ 27 ∷ 30 ∷ 95 ∷ 19 ∷ 112 ∷ []
unfolding words number
words_0 = refl

words_1 : words 1 ≡ 126 ∷ 129 ∷ 107 ∷ 75 ∷ 251 ∷ 226 ∷ 251 ∷ 84 ∷ 246 ∷ 189 ∷ 223 ∷ 124 ∷ 28 ∷ 225 ∷ 135 ∷ 1 ∷ []
unfolding words number
words_1 = refl

words_2 : words 2 ≡ 33 ∷ 255 ∷ 114 ∷ 237 ∷ 215 ∷ 24 ∷ 217 ∷ 78 ∷ 19 ∷ 149 ∷ 19 ∷ 220 ∷ 27 ∷ 99 ∷ 252 ∷ 147 ∷ []
unfolding words number
words_2 = refl

-- of two stages, with one line `---`
source_0 : source 0 ≡
    codes "pipe g(n: uint<8>)[m: uint<8>[16] comb lock queue(4)] {\na = n[3:0];\nb = n[7:4];\nreserve(m[a], R);\nreserve(m[b], W);\n"
    ++ codes "call(n + 8'd1);\n---\nblock(m[a]);\nx = m[a];\nblock(m[b]);\nm[b] <- x + n;\nrelease(m[a]);\nrelease(m[b]);\n} start g(8'd1);\n"
unfolding source number digits
source_0 = refl

-- of four, with two more
source_2 : source 2 ≡
    codes "pipe g(n: uint<8>)[m: uint<8>[16] comb lock rename(4)] {\na = n[3:0];\nb = n[7:4];\nreserve(m[a], R);\nreserve(m[b], W);\n"
    ++ codes "call(n + 8'd141);\n---\nblock(m[a]);\nx = m[a];\n---\n---\nblock(m[b]);\nm[b] <- x + n;\nrelease(m[a]);\nrelease(m[b]);\n} start g(8'd1);\n"
unfolding source number digits
source_2 = refl

line_1 : first_line 1 ≡ codes "gen 1 stages 3 lock bypass\n"
unfolding first_line digits
line_1 = refl
