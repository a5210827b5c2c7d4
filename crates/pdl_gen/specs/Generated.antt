-- The generated run of a number: the source of a pipe, and the words of its memory.
use Rattle.std.specs.Prelude.{ℕ, zero, suc, ◌+◌, ◌-◌, ◌*◌, ◌/◌, ◌%◌, ◌==◌, List, [], ◌++◌, map, codes, decimal, if◌then◌else◌}
use Rattle.std.specs.List.{range_with_len}
use Rattle.pdl_semantics.specs.Tree.{LockKind, Queue, Bypass, Rename}

-- THE NUMBERS

-- the number that comes after x, below 2 ^ 31
abbrev pub next : ℕ → ℕ
next x = (1103515245 * x + 12345) % 2147483648

-- the i-th number after n
unfoldable pub number : ℕ → ℕ → ℕ
number n zero = n
number n (suc i) = next (number n i)

-- bits 16 to 23 of the i-th number after n, as a byte
abbrev pub byte : ℕ → ℕ → ℕ
byte n i = number n i / 65536 % 256

-- THE PIPE

-- K, how many stages it has
abbrev pub stages : ℕ → ℕ
stages n = 2 + n % 14

-- the kinds of lock in order: queue, bypass, then renaming
abbrev pub nth_kind : ℕ → LockKind
nth_kind zero = Queue
nth_kind (suc zero) = Bypass
nth_kind (suc (suc i)) = Rename

-- KIND, its lock
abbrev pub kind : ℕ → LockKind
kind n = nth_kind (n % 3)

-- a byte, or the next one where it is even
abbrev pub made_odd : ℕ → ℕ
made_odd y = if y % 2 == 1 then y else y + 1

-- STEP, what a thread adds to its argument for the next one
abbrev pub step : ℕ → ℕ
step n = made_odd (byte n 1)

-- THE SOURCE

-- the word by which a source asks for a kind of lock
abbrev pub kind_name : LockKind → List ℕ
kind_name Queue = codes "queue"
kind_name Bypass = codes "bypass"
kind_name Rename = codes "rename"

-- as many lines `---` as asked for
abbrev pub separators : ℕ → List ℕ
separators zero = []
separators (suc k) = separators k ++ codes "---\n"

-- the line of the head, with the kind of lock
abbrev pub head : LockKind → List ℕ
head k = codes "pipe g(n: uint<8>)[m: uint<8>[16] comb lock " ++ kind_name k ++ codes "(4)] {\n"

-- the first two stages: a thread reserves, calls the next one, and reads
abbrev pub reading_stages : ℕ → List ℕ
reading_stages s =
    codes "a = n[3:0];\nb = n[7:4];\nreserve(m[a], R);\nreserve(m[b], W);\ncall(n + 8'd" ++ decimal s
    ++ codes ");\n---\nblock(m[a]);\nx = m[a];\n"

-- the end of the last stage: it writes and releases
abbrev pub writing_end : List ℕ
writing_end = codes "block(m[b]);\nm[b] <- x + n;\nrelease(m[a]);\nrelease(m[b]);\n} start g(8'd1);\n"

-- each further stage has a line `---` before it
unfoldable pub source : ℕ → List ℕ
source n = head (kind n) ++ reading_stages (step n) ++ separators (stages n - 2) ++ writing_end

-- THE IMAGE

-- the 16 words of m
unfoldable pub words : ℕ → List ℕ
words n = map (λ i. byte n (i + 2)) (range_with_len 0 16)

-- THE RUN

-- how many cycles it has
unfoldable pub cycles : ℕ
cycles = 10000

-- what is printed first of it: `gen N stages K lock KIND`
unfoldable pub first_line : ℕ → List ℕ
first_line n =
    codes "gen " ++ decimal n ++ codes " stages " ++ decimal (stages n) ++ codes " lock " ++ kind_name (kind n) ++ codes "\n"
