-- What the lines of a dump are read as, and what they tell: the ports, and the moments.
use Rattle.std.proofs.Common.{◌≡◌, refl, ◌∙◌, ap, ℕ, suc, ◌^◌, ◌<◌, true, List, [], ◌∷◌, ◌++◌, length, map, flat_map, decimal, Some, arith}
use Rattle.std.specs.Prelude.{codes}
use Rattle.std.specs.Option.{option_map}
use Rattle.std.proofs.lemmas.Bool.{and_from, cond-true, le-leb}
use Rattle.std.proofs.lemmas.List.{append-nil, append_assoc, map-append}
use Rattle.pdl_word.specs.Each.{Each}
use Rattle.pdl_word.proofs.Each.{each_append}
use Rattle.pdl_word.proofs.Bytes.{bytes_refl}
use Rattle.pdl_wave.specs.declared.port.WavePort.{WavePort}
use Rattle.pdl_wave.specs.Moments.{Change, Moment}
use Rattle.pdl_wave.specs.Dump.{code, binary, width_of, declaration, declarations, upscope, enddefinitions, header, time_text, change_text, change_line, moment_lines, is_word, IsPort}
use Rattle.pdl_wave.specs.Wave.{DumpLine, Var, Upscope, EndDefinitions, Time, NewValue, Nothing, of_line, with_port, declares, declared, Told, with_change, at_time, told_by}
use Rattle.pdl_wave.proofs.LineBytes.{is_line, word_line, pieces_line, decimal_word, code_word}
use Rattle.pdl_wave.proofs.Digits.{binary_word}
use Rattle.pdl_wave.proofs.Read.{read_time, read_change, read_declaration}
use Rattle.pdl_wave.proofs.Codes.{change_read}

-- ---- what is read

-- the declarations of the ports from the i-th on
abbrev pub read_ports : ℕ → List WavePort → List DumpLine
read_ports i [] = []
read_ports i (p ∷ ps) = Var p.width (code i) p.name ∷ read_ports (suc i) ps

abbrev read_as : List WavePort → Change → DumpLine
read_as ports x = NewValue (binary (width_of ports x.port) x.value) (code x.port)

-- what the lines of a moment read as: its time, and its changes
abbrev pub read_moment : List WavePort → Moment → List DumpLine
read_moment ports m = Time m.time ∷ map (read_as ports) m.changes

-- a change of a port that is there, to a value that fits it
pub record Fits (ports : List WavePort) (x : Change) : Type 0 where
  pub there : x.port < length ports
  pub fits : x.value < 2 ^ width_of ports x.port

-- a moment whose time can be counted, with such changes
pub record CanTell (ports : List WavePort) (m : Moment) : Type 0 where
  pub counted : m.time < 2 ^ 64
  pub each : Each (Fits ports) m.changes

-- the declarations of ports from the i-th on read as those ports
pub ports_read : (i : ℕ) (ports : List WavePort) → Each IsPort ports → map of_line (declarations i ports) ≡ read_ports i ports
ports_read i [] h = refl
ports_read i (p ∷ ps) h =
    ap (λ line. line ∷ map of_line (declarations (suc i) ps)) (read_declaration i p h.0.high h.0.name)
    ∙ ap (λ more. Var p.width (code i) p.name ∷ more) (ports_read (suc i) ps h.1)

changes_read : (ports : List WavePort) (xs : List Change) → map of_line (map (change_line ports) xs) ≡ map (read_as ports) xs
changes_read ports [] = refl
changes_read ports (x ∷ xs) =
    ap (λ line. line ∷ map of_line (map (change_line ports) xs)) (read_change x.value (width_of ports x.port) x.port)
    ∙ ap (λ more. read_as ports x ∷ more) (changes_read ports xs)

-- the lines of moments, with changes that fit their ports, read as those moments
pub moments_read : (ports : List WavePort) (ms : List Moment) → Each (CanTell ports) ms
    → map of_line (flat_map (moment_lines ports) ms) ≡ flat_map (read_moment ports) ms
moments_read ports [] h = refl
moments_read ports (m ∷ ms) h =
    map-append of_line (moment_lines ports m) (flat_map (moment_lines ports) ms)
    ∙ ap (λ line. (line ∷ map of_line (map (change_line ports) m.changes)) ++ map of_line (flat_map (moment_lines ports) ms)) (read_time m.time h.0.counted)
    ∙ ap (λ lines. (Time m.time ∷ lines) ++ map of_line (flat_map (moment_lines ports) ms)) (changes_read ports m.changes)
    ∙ ap (λ more. read_moment ports m ++ more) (moments_read ports ms h.1)

-- ---- each line can be cut

declaration_line : (i : ℕ) (p : WavePort) → IsPort p → is_line (declaration i p) ≡ true
declaration_line i p h =
    let wide : p.width < 2 ^ 64 = let high = h.high in omega arith in
    pieces_line (codes "$var wire ") (decimal p.width ∷ codes " " ∷ code i ∷ codes " " ∷ p.name ∷ codes " $end" ∷ []) refl
    (word_line (decimal p.width) (decimal_word p.width wide), (refl, (word_line (code i) (code_word i), (refl, (word_line p.name h.name, (refl, tt))))))

declarations_lines : (i : ℕ) (ports : List WavePort) → Each IsPort ports → Each (λ line. is_line line ≡ true) (declarations i ports)
declarations_lines i [] h = tt
declarations_lines i (p ∷ ps) h = (declaration_line i p h.0, declarations_lines (suc i) ps h.1)

-- the lines of a header have only bytes above the line feed, where the pipe's name is a word
pub header_lines : (name : List ℕ) (ports : List WavePort)
    → is_word name ≡ true → Each IsPort ports → Each (λ line. is_line line ≡ true) (header name ports)
header_lines name ports named each = (
  refl,
  (
    pieces_line (codes "$scope module pdl_") (name ∷ codes " $end" ∷ []) refl (word_line name named, (refl, tt)),
    each_append _ (declarations 0 ports) (upscope ∷ enddefinitions ∷ []) (declarations_lines 0 ports each) (refl, (refl, tt)),
  ),
)

-- the line of a time below 2^64 has only bytes above the line feed
pub time_is_line : (time : ℕ) → time < 2 ^ 64 → is_line (time_text time) ≡ true
time_is_line time h = pieces_line (codes "#") (decimal time ∷ []) refl (word_line (decimal time) (decimal_word time h), tt)

change_is_line : (value width i : ℕ) → is_line (change_text value width i) ≡ true
change_is_line value width i =
    pieces_line (codes "b") (binary width value ∷ codes " " ∷ code i ∷ []) refl
    (word_line (binary width value) (binary_word width value), (refl, (word_line (code i) (code_word i), tt)))

changes_lines : (ports : List WavePort) (xs : List Change) → Each (λ line. is_line line ≡ true) (map (change_line ports) xs)
changes_lines ports [] = tt
changes_lines ports (x ∷ xs) = (change_is_line x.value (width_of ports x.port) x.port, changes_lines ports xs)

-- the lines of moments, with changes that fit their ports, have only bytes above the line feed
pub moments_lines : (ports : List WavePort) (ms : List Moment) → Each (CanTell ports) ms
    → Each (λ line. is_line line ≡ true) (flat_map (moment_lines ports) ms)
moments_lines ports [] h = tt
moments_lines ports (m ∷ ms) h =
    each_append _ (moment_lines ports m) (flat_map (moment_lines ports) ms)
    (time_is_line m.time h.0.counted, changes_lines ports m.changes) (moments_lines ports ms h.1)

-- ---- what is told

-- from lines that declare ports these ports are read, and the lines after the header are left
pub declared_back : (i : ℕ) (ports : List WavePort) (rest : List DumpLine) → Each IsPort ports →
    declared i (read_ports i ports ++ Upscope ∷ EndDefinitions ∷ rest) ≡ Some (record { ports = ports; rest = rest })
declared_back i [] rest h = refl
declared_back i (p ∷ ps) rest h =
    let low = h.0.low in
    let high = h.0.high in
    let passes : declares i p.width (code i) ≡ true = and_from _ _ (le-leb 1 p.width low) (and_from _ _ (le-leb p.width 128 high) (bytes_refl (code i))) in
    cond-true _ _ _ passes ∙ ap (option_map (with_port p)) (declared_back (suc i) ps rest h.1)

-- the changes before a line, before those that are told from it on
told_changes : (ports : List WavePort) (xs : List Change) (rest : List DumpLine) (t : Told) → Each (Fits ports) xs → told_by ports rest ≡ Some t →
    told_by ports (map (read_as ports) xs ++ rest) ≡ Some (record { changes = xs ++ t.changes; moments = t.moments })
told_changes ports [] rest t h e = e
told_changes ports (x ∷ xs) rest t h e =
    ap (λ one. with_change one (told_by ports (map (read_as ports) xs ++ rest))) (change_read ports x.port x.value h.0.there h.0.fits)
    ∙ ap (with_change (Some x)) (told_changes ports xs rest t h.1 e)

-- the moments, and last a time without changes
pub told_moments : (ports : List WavePort) (ms : List Moment) (last : ℕ) → Each (CanTell ports) ms →
    told_by ports (flat_map (read_moment ports) ms ++ Time last ∷ Nothing ∷ [])
    ≡ Some (record { changes = []; moments = ms ++ record { time = last; changes = [] } ∷ [] })
told_moments ports [] last h = refl
told_moments ports (m ∷ ms) last h =
    let more = flat_map (read_moment ports) ms in
    let end : List DumpLine = Time last ∷ Nothing ∷ [] in
    let t : Told = record { changes = []; moments = ms ++ record { time = last; changes = [] } ∷ [] } in
    ap (told_by ports) (append_assoc (read_moment ports m) more end)
    ∙ ap (option_map (at_time m.time)) (told_changes ports m.changes (more ++ end) t h.0.each (told_moments ports ms last h.1))
    ∙ ap (λ xs. Some (record { changes = []; moments = record { time = m.time; changes = xs } ∷ t.moments })) (append-nil m.changes)
