-- The reads of a command: one after another, in order.
use Rattle.std.proofs.Common.{◌≡◌, ℕ, zero, suc, ◌+◌, ◌≤◌, ◌<◌, List, [], ◌∷◌, ◌++◌, length, map, take, Option, Some, None, inl, inr, arith, refl, sym, ap, ◌∙◌, subst, append_assoc, append-nil}
use Rattle.pdl_kit.specs.declared.rule.Rule.{Rule}
use Rattle.pdl_system.specs.Answers.{Answer, Since, gave, failed}
use Rattle.pdl_image.specs.Images.{image}
use Rattle.pdl_kit.specs.declared.mem_info.MemInfo.{MemInfo}
use Rattle.std.specs.Prelude.{Ok, Err}
use Rattle.pdl_cli_args.specs.Line.{Command, check, run, seq, asm, gen, build, sim, wave, view}
use Rattle.pdl_cli_failure.specs.declared.failure.Position.{Position}
use Rattle.pdl_cli_failure.specs.declared.failure.Position.TheVariants.{Line, Insn}
use Rattle.pdl_cli_failure.specs.declared.failure.Failure.{Failure}
use Rattle.pdl_cli_failure.specs.declared.failure.Failure.TheVariants.{Usage, Refused, ReadFault, WriteFault, NoMemory}
use Rattle.pdl_cli_commands.specs.Commands.{IsWrongFor}
use Rattle.pdl_cli_commands.specs.Reading.{listed, files, with_text, texts, IsReading, AreAllGiven, HasFailed}
use Rattle.pdl_cli_commands.specs.Begun.{FileFails, IsRefusedImage, AreRefusedDelays, gave_each, HasReplies, DelaysFail, IsBegun, StartFails}
use Rattle.pdl_cli_commands.specs.Outcomes.{Fails}

-- ---- texts

with_text_append : (o : Option (List ℕ)) (xs ys : List (List ℕ)) → with_text o (xs ++ ys) ≡ with_text o xs ++ ys
with_text_append None xs ys = refl
with_text_append (Some t) xs ys = refl

-- the texts of reads after others
pub texts_append : (rs bs : List Answer) → texts (rs ++ bs) ≡ texts rs ++ texts bs
texts_append [] bs = refl
texts_append (a ∷ rs) bs = ap (with_text a.bytes) (texts_append rs bs) ∙ with_text_append a.bytes (texts rs) (texts bs)

one_text_more : (o : Option (List ℕ)) (ts : List (List ℕ)) (n : ℕ) → length ts ≤ n → length (with_text o ts) ≤ suc n
one_text_more None ts n h = omega (arith, h)
one_text_more (Some t) ts n h = omega (arith, h)

-- no more texts than reads
pub few_texts : (rs : List Answer) → length (texts rs) ≤ length rs
few_texts [] = omega arith
few_texts (a ∷ rs) = one_text_more a.bytes (texts rs) (length rs) (few_texts rs)

at_most : (k : ℕ) (rs : List Answer) → length (take k rs) ≤ k
at_most zero rs = omega arith
at_most (suc k) [] = omega arith
at_most (suc k) (a ∷ rs) = let few = at_most k rs in omega (arith, few)

names_append : (rs : List Answer) (a : Answer) (rest : List (List ℕ))
    → map (λ (x : Answer). x.name) (rs ++ a ∷ []) ++ rest ≡ map (λ (x : Answer). x.name) rs ++ a.name ∷ rest
names_append [] a rest = refl
names_append (x ∷ xs) a rest = ap (λ l. x.name ∷ l) (names_append xs a rest)

take_front : (k : ℕ) (rs : List Answer) (a : Answer) → k ≤ length rs → take k (rs ++ a ∷ []) ≡ take k rs
take_front zero rs a h = refl
take_front (suc k) [] a h = absurd (omega (arith, h))
take_front (suc k) (x ∷ xs) a h = ap (λ l. x ∷ l) (take_front k xs a (omega (arith, h)))

longer : (rs : List Answer) (a : Answer) → length (rs ++ a ∷ []) ≡ length rs + 1
longer [] a = refl
longer (x ∷ xs) a = let e = longer xs a in omega (arith, e)

-- ---- the next read

-- a command may read the file of a name after these reads: it is the next of its files, each before it gave its text, and none of these texts is wrong
pub record MayRead (command : Command) (before : List Answer) (name : List ℕ) : Type 0 where
  pub rest : List (List ℕ)
  pub in_order : files command ≡ map (λ (a : Answer). a.name) before ++ name ∷ rest
  pub given : (k : ℕ) → k ≤ length before → length (texts (take k before)) ≡ k
  pub right : (k : ℕ) → k ≤ length before → (rule : Rule) (position : Position) → IsWrongFor command (texts (take k before)) rule position → ⊥

-- it is read
pub reads_next : (command : Command) (before : List Answer) (name : List ℕ) → MayRead command before name
    → (bytes : Option (List ℕ)) → IsReading command (before ++ record { name = name; bytes = bytes } ∷ [])
reads_next command before name may bytes =
    let a : Answer = record { name = name; bytes = bytes } in
    let within : (k : ℕ) → k < length (before ++ a ∷ []) → k ≤ length before = λ k l. let e = longer before a in omega (arith, e, l) in
    record {
      unread = may.rest;
      in_order = may.in_order ∙ sym (names_append before a may.rest);
      given = λ k l. ap (λ rs. length (texts rs)) (take_front k before a (within k l)) ∙ may.given k (within k l);
      right = λ k l rule position w. may.right k (within k l) rule position
          (subst (λ rs. IsWrongFor command (texts rs) rule position) (take_front k before a (within k l)) w);
    }

-- the first file may be read
pub may_first : (command : Command) (name : List ℕ) (rest : List (List ℕ)) → files command ≡ name ∷ rest
    → ((rule : Rule) (position : Position) → IsWrongFor command [] rule position → ⊥) → MayRead command [] name
may_first command name rest named right = record { rest = rest; in_order = named; given = given; right = rights }
  where
    given : (k : ℕ) → k ≤ 0 → length (texts (take k [])) ≡ k
    given zero l = refl
    given (suc k) l = absurd (omega (arith, l))

    rights : (k : ℕ) → k ≤ 0 → (rule : Rule) (position : Position) → IsWrongFor command (texts (take k [])) rule position → ⊥
    rights zero l = right
    rights (suc k) l = absurd (omega (arith, l))

-- the second file may be read, where the first one is right
pub may_second : (command : Command) (first text name : List ℕ) (rest : List (List ℕ)) → files command ≡ first ∷ name ∷ rest
    → ((rule : Rule) (position : Position) → IsWrongFor command [] rule position → ⊥)
    → ((rule : Rule) (position : Position) → IsWrongFor command (text ∷ []) rule position → ⊥)
    → MayRead command (gave first text ∷ []) name
may_second command first text name rest named right right1 = record { rest = rest; in_order = named; given = given; right = rights }
  where
    given : (k : ℕ) → k ≤ 1 → length (texts (take k (gave first text ∷ []))) ≡ k
    given zero l = refl
    given (suc zero) l = refl
    given (suc (suc k)) l = absurd (omega (arith, l))

    rights : (k : ℕ) → k ≤ 1 → (rule : Rule) (position : Position) → IsWrongFor command (texts (take k (gave first text ∷ []))) rule position → ⊥
    rights zero l = right
    rights (suc zero) l = right1
    rights (suc (suc k)) l = absurd (omega (arith, l))

-- the third file may be read, where the first two are right
pub may_third : (command : Command) (first text second text2 name : List ℕ) (rest : List (List ℕ)) → files command ≡ first ∷ second ∷ name ∷ rest
    → ((rule : Rule) (position : Position) → IsWrongFor command [] rule position → ⊥)
    → ((rule : Rule) (position : Position) → IsWrongFor command (text ∷ []) rule position → ⊥)
    → ((rule : Rule) (position : Position) → IsWrongFor command (text ∷ text2 ∷ []) rule position → ⊥)
    → MayRead command (gave first text ∷ gave second text2 ∷ []) name
may_third command first text second text2 name rest named right right1 right2 =
    record { rest = rest; in_order = named; given = given; right = rights }
  where
    given : (k : ℕ) → k ≤ 2 → length (texts (take k (gave first text ∷ gave second text2 ∷ []))) ≡ k
    given zero l = refl
    given (suc zero) l = refl
    given (suc (suc zero)) l = refl
    given (suc (suc (suc k))) l = absurd (omega (arith, l))

    rights : (k : ℕ) → k ≤ 2 → (rule : Rule) (position : Position)
        → IsWrongFor command (texts (take k (gave first text ∷ gave second text2 ∷ []))) rule position → ⊥
    rights zero l = right
    rights (suc zero) l = right1
    rights (suc (suc zero)) l = right2
    rights (suc (suc (suc k))) l = absurd (omega (arith, l))

-- before any file is read, none is wrong
pub none_wrong_yet : (command : Command) (name : List ℕ) (rest : List (List ℕ)) → files command ≡ name ∷ rest
    → (rule : Rule) (position : Position) → IsWrongFor command [] rule position → ⊥
none_wrong_yet (check source) name rest named rule (Line n) w = w
none_wrong_yet (check source) name rest named rule (Insn n) w = w
none_wrong_yet (run source image' cycles delays) name rest named rule (Line n) w = w
none_wrong_yet (run source image' cycles delays) name rest named rule (Insn n) w = w
none_wrong_yet (seq source image' threads) name rest named rule (Line n) w = w
none_wrong_yet (seq source image' threads) name rest named rule (Insn n) w = w
none_wrong_yet (asm table program) name rest named rule position w = w
none_wrong_yet (gen number) name rest named rule position w = absurd (cc named)
none_wrong_yet (build source) name rest named rule (Line n) w = w
none_wrong_yet (build source) name rest named rule (Insn n) w = w
none_wrong_yet (sim v image' cycles delays) name rest named rule (Line n) w = w
none_wrong_yet (sim v image' cycles delays) name rest named rule (Insn n) w = w
none_wrong_yet (wave source image' cycles delays) name rest named rule (Line n) w = w
none_wrong_yet (wave source image' cycles delays) name rest named rule (Insn n) w = w
none_wrong_yet (view source image' cycles delays) name rest named rule (Line n) w = w
none_wrong_yet (view source image' cycles delays) name rest named rule (Insn n) w = w

-- the first file of a command is read
pub first_read : (command : Command) (name : List ℕ) (rest : List (List ℕ)) → files command ≡ name ∷ rest → (bytes : Option (List ℕ))
    → IsReading command (record { name = name; bytes = bytes } ∷ [])
first_read command name rest named bytes =
    reads_next command [] name (may_first command name rest named (none_wrong_yet command name rest named)) bytes

-- ---- what is known of the reads of a command

names_of : (rs : List Answer) (rest : List (List ℕ)) → length rs ≤ length (map (λ (a : Answer). a.name) rs ++ rest)
names_of [] rest = omega arith
names_of (a ∷ rs) rest = let few = names_of rs rest in omega (arith, few)

-- no more reads than files
pub few_reads : (command : Command) (reads : List Answer) → IsReading command reads → length reads ≤ length (files command)
few_reads command reads order = subst (λ names. length reads ≤ length names) (sym order.in_order) (names_of reads order.unread)

some_read : (rs : List Answer) → length (texts rs) < length rs → (k : ℕ) × (length rs ≡ k + 1)
some_read [] h = absurd (omega (arith, h))
some_read (a ∷ rs) h = (length rs, omega arith)

no_text : (o : Option (List ℕ)) → length (with_text o []) < 1 → with_text o [] ≡ []
no_text None h = refl
no_text (Some t) h = absurd (omega (arith, h))

one_before : (o : Option (List ℕ)) (k : ℕ) (rs : List Answer)
    → (length (texts (take k rs)) ≡ k → length (texts rs) < length rs → texts rs ≡ texts (take k rs))
    → length (with_text o (texts (take k rs))) ≡ suc k → length (with_text o (texts rs)) < suc (length rs)
    → with_text o (texts rs) ≡ with_text o (texts (take k rs))
one_before None k rs same g h = let few = few_texts (take k rs) in let most = at_most k rs in absurd (omega (arith, g, few, most))
one_before (Some t) k rs same g h = ap (λ l. t ∷ l) (same (omega (arith, g)) (omega (arith, h)))

-- where not all reads gave texts, the texts are those of all reads but the last
all_but_last : (rs : List Answer) (k : ℕ) → length rs ≡ k + 1 → length (texts (take k rs)) ≡ k → length (texts rs) < length rs
    → texts rs ≡ texts (take k rs)
all_but_last [] k e given short = absurd (omega (arith, e))
all_but_last (a ∷ []) zero e given short = no_text a.bytes short
all_but_last (a ∷ []) (suc k) e given short = absurd (omega (arith, e))
all_but_last (a ∷ b ∷ rs) zero e given short = absurd (omega (arith, e))
all_but_last (a ∷ b ∷ rs) (suc k) e given short =
    one_before a.bytes k (b ∷ rs) (all_but_last (b ∷ rs) k (omega (arith, e))) given short

-- where a file was not read, none of the texts is wrong
pub last_given : (command : Command) (reads : List Answer) → IsReading command reads → HasFailed reads
    → (rule : Rule) (position : Position) → IsWrongFor command (texts reads) rule position → ⊥
last_given command reads order failed rule position w =
    let k = some_read reads failed in
    let within : k.0 < length reads = let e = k.1 in omega (arith, e) in
    order.right k.0 within rule position
    (subst (λ ts. IsWrongFor command ts rule position) (all_but_last reads k.0 k.1 (order.given k.0 within) failed) w)

-- ---- a file that is not there

module _ (command : Command) (before : List Answer) (name : List ℕ) (may : MayRead command before name) (refused : List ℕ → Rule → Position → Type 0)
    (wrong : (text : List ℕ) (rule : Rule) (position : Position) → refused text rule position
    → IsWrongFor command (texts (before ++ gave name text ∷ [])) rule position) where
  unread : length (texts (before ++ failed name ∷ [])) < length (before ++ failed name ∷ [])
  unread =
      let short = ap length (texts_append before (failed name ∷ []) ∙ append-nil (texts before)) in let few = few_texts before in
      let long = longer before (failed name) in omega (arith, short, few, long)

  -- where the next file isn't there, the command fails in the same way
  pub file_fails : (old new : List Answer) (faults faults_now : ℕ) (f : Failure) → FileFails refused old new faults faults_now name f
      → Since old new (λ reads. Fails command (before ++ reads) faults faults_now f)
  file_fails old new faults faults_now Usage w = absurd w
  file_fails old new faults faults_now (Refused rule position) w =
      record {
        reads = gave name w.0 ∷ [];
        since = w.1;
        so = record { order = reads_next command before name may (Some w.0); cause = wrong w.0 rule position w.2 };
      }
  file_fails old new faults faults_now ReadFault w =
      record { reads = failed name ∷ []; since = w.0; so = record { order = reads_next command before name may None; cause = (unread, w.1) } }
  file_fails old new faults faults_now WriteFault w = absurd w
  file_fails old new faults faults_now NoMemory w =
      record {
        reads = record { name = name; bytes = w.0 } ∷ [];
        since = w.1;
        so = record { order = reads_next command before name may w.0; cause = tt };
      }

-- what is so of the reads since a file was read is so with this read of those before it
pub since_more : (old new before : List Answer) (a : Answer) (P : List Answer → Type 0)
    → Since (old ++ a ∷ []) new (λ reads. P ((before ++ a ∷ []) ++ reads)) → Since old new (λ reads. P (before ++ reads))
since_more old new before a P w =
    record {
      reads = a ∷ w.reads;
      since = w.since ∙ append_assoc old (a ∷ []) w.reads;
      so = subst P (append_assoc before (a ∷ []) w.reads) w.so;
    }

-- ---- an image, and a delay file after it

-- a command reads an image after a first file, whose text it has, and then a delay file, if one is named; it judges the image for these memories, and the delay file for so many delayed ones
pub record ReadsImage (command : Command) (first text image' : List ℕ) (delays : Option (List ℕ)) (mems : List MemInfo) (count : ℕ) : Type 0 where
  pub named : files command ≡ first ∷ image' ∷ listed delays
  pub right : (rule : Rule) (position : Position) → IsWrongFor command (text ∷ []) rule position → ⊥
  pub image_wrong : (i : List ℕ) (rule : Rule) (position : Position) → IsRefusedImage mems i rule position
      → IsWrongFor command (text ∷ i ∷ []) rule position
  pub image_right : (i : List ℕ) (words : List (List ℕ)) → image mems i ≡ Ok words → (rule : Rule) (position : Position)
      → IsWrongFor command (text ∷ i ∷ []) rule position → ⊥
  pub delays_wrong : (i d : List ℕ) (words : List (List ℕ)) → image mems i ≡ Ok words → (rule : Rule) (position : Position)
      → AreRefusedDelays count d rule position → IsWrongFor command (text ∷ i ∷ d ∷ []) rule position

module _ (command : Command) (first text image' : List ℕ) (delays : Option (List ℕ)) (mems : List MemInfo) (count : ℕ)
    (reads : ReadsImage command first text image' delays mems count) where
  unwrong : (rule : Rule) (position : Position) → IsWrongFor command [] rule position → ⊥
  unwrong = none_wrong_yet command first (image' ∷ listed delays) reads.named

  -- it may read its image
  pub may_image : MayRead command (gave first text ∷ []) image'
  may_image = may_second command first text image' (listed delays) reads.named unwrong reads.right

  may_delays : (i : List ℕ) (words : List (List ℕ)) → image mems i ≡ Ok words → (name : List ℕ) → delays ≡ Some name
      → MayRead command (gave first text ∷ gave image' i ∷ []) name
  may_delays i words taken name e =
      may_third command first text image' i name []
      (reads.named ∙ ap (λ o. first ∷ image' ∷ listed o) e) unwrong reads.right (reads.image_right i words taken)

  delays_fail : (o : Option (List ℕ)) → delays ≡ o → (i : List ℕ) (words : List (List ℕ)) → image mems i ≡ Ok words
      → (old new : List Answer) (faults faults_now : ℕ) (f : Failure) → DelaysFail o count old new faults faults_now f
      → Since old new (λ rs. Fails command (gave first text ∷ gave image' i ∷ rs) faults faults_now f)
  delays_fail None e i words taken old new faults faults_now f w = absurd w
  delays_fail (Some name) e i words taken old new faults faults_now f w =
      file_fails command (gave first text ∷ gave image' i ∷ []) name (may_delays i words taken name e) (AreRefusedDelays count)
      (λ d rule position r. reads.delays_wrong i d words taken rule position r) old new faults faults_now f w

  -- where the image or the delay file isn't there, the command fails in the same way
  pub start_fails : (old new : List Answer) (faults faults_now : ℕ) (f : Failure)
      → StartFails old new faults faults_now image' delays mems count f
      → Since old new (λ rs. Fails command (gave first text ∷ rs) faults faults_now f)
  start_fails old new faults faults_now f (inl w) =
      file_fails command (gave first text ∷ []) image' may_image (IsRefusedImage mems)
      (λ i rule position r. reads.image_wrong i rule position r) old new faults faults_now f w
  start_fails old new faults faults_now f (inr w) =
      since_more old new (gave first text ∷ []) (gave image' w.0) (λ rs. Fails command rs faults faults_now f)
      (delays_fail delays refl w.0 w.1 w.2 (old ++ gave image' w.0 ∷ []) new faults faults_now f w.3)

  all_read : (o : Option (List ℕ)) → delays ≡ o → (i : List ℕ) (words : List (List ℕ)) → image mems i ≡ Ok words
      → (ts : List (List ℕ)) → length ts ≡ length (listed o)
      → IsReading command (gave first text ∷ gave image' i ∷ gave_each (listed o) ts)
      × AreAllGiven command (gave first text ∷ gave image' i ∷ gave_each (listed o) ts)
      × (texts (gave first text ∷ gave image' i ∷ gave_each (listed o) ts) ≡ text ∷ i ∷ ts)
  all_read None e i words taken [] h = (
    reads_next command (gave first text ∷ []) image' may_image (Some i),
    ap length (sym (reads.named ∙ ap (λ d. first ∷ image' ∷ listed d) e)),
    refl,
  )
  all_read None e i words taken (t ∷ ts) h = absurd (omega (arith, h))
  all_read (Some name) e i words taken [] h = absurd (omega (arith, h))
  all_read (Some name) e i words taken (t ∷ []) h = (
    reads_next command (gave first text ∷ gave image' i ∷ []) name (may_delays i words taken name e) (Some t),
    ap length (sym (reads.named ∙ ap (λ d. first ∷ image' ∷ listed d) e)),
    refl,
  )
  all_read (Some name) e i words taken (t ∷ u ∷ ts) h = absurd (omega (arith, h))

  -- where both are there, all files of the command were read
  pub begun : (old new : List Answer) (words : List (List ℕ)) (rows : List ℕ) (b : IsBegun old new image' delays mems count words rows)
      → Since old new (λ rs. IsReading command (gave first text ∷ rs) × AreAllGiven command (gave first text ∷ rs)
      × (texts (gave first text ∷ rs) ≡ text ∷ b.image_text ∷ b.replies.texts))
  begun old new words rows b =
      record {
        reads = gave image' b.image_text ∷ gave_each (listed delays) b.replies.texts;
        since = b.replies.given ∙ append_assoc old (gave image' b.image_text ∷ []) (gave_each (listed delays) b.replies.texts);
        so = all_read delays refl b.image_text words b.taken b.replies.texts b.replies.each;
      }
