-- What steps do to a list of values, where the arrays hold these words.
use Rattle.std.specs.Prelude.{◌≡◌, ℕ, suc, ◌+◌, ◌-◌, ◌*◌, ◌^◌, ◌<◌, ◌≤◌, ◌==◌, min, List, [], ◌∷◌, ◌++◌, length, map, slice_index, slice_index_or, slice_set, Vec, All, if◌then◌else◌}
use Rattle.std.specs.declared.alloc.Global.{Global}
use Rattle.pdl_word.specs.Words as words
use Rattle.pdl_netrun.specs.declared.operation.CellKind.{CellKind}
use Rattle.pdl_netrun.specs.declared.operation.CellKind.TheVariants.{Constant, Complement, Add, Sub, Mul, And, Or, Xor, Equal, Differ, Less, ShiftLeft, ShiftRight, Choose, Slice, Join, Repeat, Look}
use Rattle.pdl_netrun.specs.declared.operation.CellOperands.{CellOperands}
use Rattle.pdl_netrun.specs.declared.walk.CellRun.{CellRun}
use Rattle.pdl_netrun.specs.RunKinds.{kind_in}
use Rattle.pdl_netrun.specs.declared.writes.PlannedWrite.{PlannedWrite}

-- the words of each array
abbrev pub array_words : List (Vec ℕ Global) → List (List ℕ)
array_words vs = map (λ v. v.items) vs

-- all these places are among the first n
abbrev pub AreBelow : ℕ → List ℕ → Type 0
AreBelow n places = All (λ p. p < n) places

-- ONE STEP

-- a cell that reads the words at these places
abbrev pub reading_at : ℕ → ℕ → CellOperands
reading_at a b = record { places = a ∷ b ∷ []; selector = 0; width = 0; high = 0; low = 0; count = 0; mask = 0 }

-- the place of the first word
abbrev pub first_of : CellOperands → ℕ
first_of o = slice_index o.places 0

-- the place of the second word
abbrev pub second_of : CellOperands → ℕ
second_of o = slice_index o.places 1

-- the word at the first place
abbrev pub first : CellOperands → List ℕ → ℕ
first o vs = slice_index vs (first_of o)

-- the word at the second place
abbrev pub second : CellOperands → List ℕ → ℕ
second o vs = slice_index vs (second_of o)

-- the value that a cell makes; a constant's stands, and none is made
abbrev pub kind_value : CellKind → CellOperands → List ℕ → List (List ℕ) → ℕ
kind_value Constant o vs ws = 0
kind_value Complement o vs ws = words.complement o.width (first o vs)
kind_value Add o vs ws = words.add o.width (first o vs) (second o vs)
kind_value Sub o vs ws = words.sub o.width (first o vs) (second o vs)
kind_value Mul o vs ws = words.mul o.width (first o vs) (second o vs)
kind_value And o vs ws = words.and (first o vs) (second o vs)
kind_value Or o vs ws = words.or (first o vs) (second o vs)
kind_value Xor o vs ws = words.xor (first o vs) (second o vs)
kind_value Equal o vs ws = words.equal (first o vs) (second o vs)
kind_value Differ o vs ws = words.differ (first o vs) (second o vs)
kind_value Less o vs ws = words.less (first o vs) (second o vs)
kind_value ShiftLeft o vs ws = words.shl o.width (first o vs) (second o vs)
kind_value ShiftRight o vs ws = words.shr o.width (first o vs) (second o vs)
kind_value Choose o vs ws = slice_index vs (slice_index o.places (slice_index vs o.selector))
kind_value Slice o vs ws = words.slice o.high o.low (first o vs)
kind_value Join o vs ws = words.cat o.low (first o vs) (second o vs)
kind_value Repeat o vs ws = words.rep o.width o.count (first o vs)
kind_value Look o vs ws = slice_index (slice_index_or ws o.selector []) (first o vs)

-- the largest word of so many bits, and of no more than 64
abbrev pub mask_within : ℕ → ℕ
mask_within w = words.mask (min w 64)

-- the first place is there, and holds a word of w bits, which are no more than so many; of up to 64 the mask is the largest word
pub record IsWord (bits w : ℕ) (o : CellOperands) (vs : List ℕ) : Type 0 where
  pub mask : o.mask ≡ mask_within w
  pub there : first_of o < length vs
  pub low : 1 ≤ w
  pub high : w ≤ bits
  pub fits : first o vs < 2 ^ w

-- both places are there
pub record AreThere (o : CellOperands) (vs : List ℕ) : Type 0 where
  pub first : first_of o < length vs
  pub second : second_of o < length vs

-- both places are there and hold words of w bits, which are no more than so many; of up to 64 the mask is the largest word
pub record AreWords (bits w : ℕ) (o : CellOperands) (vs : List ℕ) : Type 0 where
  pub mask : o.mask ≡ mask_within w
  pub there : first_of o < length vs
  pub second_there : second_of o < length vs
  pub low : 1 ≤ w
  pub high : w ≤ bits
  pub fits : first o vs < 2 ^ w
  pub second_fits : second o vs < 2 ^ w

-- the two places of a choice are there, and its bit
pub record IsChoice (o : CellOperands) (vs : List ℕ) : Type 0 where
  pub count : length o.places ≡ 2
  pub bit_there : o.selector < length vs
  pub bit_fits : slice_index vs o.selector < 2
  pub each : (i : ℕ) → i < 2 → slice_index o.places i < length vs

-- the first place holds the address of a word of the array
pub record IsAddress (o : CellOperands) (vs : List ℕ) (ws : List (List ℕ)) : Type 0 where
  pub there : first_of o < length vs
  pub array : o.selector < length ws
  pub within : first o vs < length (slice_index_or ws o.selector [])

-- the first place's word is joined above another that leaves it room in so many bits
pub record AreJoined (bits : ℕ) (o : CellOperands) (vs : List ℕ) : Type 0 where
  pub there : first_of o < length vs
  pub second_there : second_of o < length vs
  pub some : 1 ≤ o.low
  pub room : o.low < bits
  pub fits : first o vs < 2 ^ (bits - o.low)
  pub second_fits : second o vs < 2 ^ o.low

-- the first place is there, and the bits from high down to low are among so many; of up to 64 the mask is the largest word
pub record IsSliced (bits : ℕ) (o : CellOperands) (vs : List ℕ) : Type 0 where
  pub mask : o.mask ≡ mask_within (o.high + 1 - o.low)
  pub there : first_of o < length vs
  pub order : o.low ≤ o.high
  pub top : o.high < bits

-- the first place's word is repeated within so many bits
pub record IsRepeated (bits : ℕ) (o : CellOperands) (vs : List ℕ) : Type 0 where
  pub word : IsWord bits o.width o vs
  pub some : 1 ≤ o.count
  pub room : o.count * o.width ≤ bits

-- a cell of this kind reads places that are there, and its words, of no more than so many bits, are as wide as it takes them to be
abbrev pub KindFits : ℕ → CellKind → CellOperands → List ℕ → List (List ℕ) → Type 0
KindFits bits Constant o vs ws = Unit {0}
KindFits bits Complement o vs ws = IsWord bits o.width o vs
KindFits bits Add o vs ws = AreWords bits o.width o vs
KindFits bits Sub o vs ws = AreWords bits o.width o vs
KindFits bits Mul o vs ws = AreWords bits o.width o vs
KindFits bits And o vs ws = AreThere o vs
KindFits bits Or o vs ws = AreThere o vs
KindFits bits Xor o vs ws = AreThere o vs
KindFits bits Equal o vs ws = AreThere o vs
KindFits bits Differ o vs ws = AreThere o vs
KindFits bits Less o vs ws = AreThere o vs
KindFits bits ShiftLeft o vs ws = AreWords bits o.width o vs
KindFits bits ShiftRight o vs ws = AreWords bits o.width o vs
KindFits bits Choose o vs ws = IsChoice o vs
KindFits bits Slice o vs ws = IsSliced bits o vs
KindFits bits Join o vs ws = AreJoined bits o vs
KindFits bits Repeat o vs ws = IsRepeated bits o vs
KindFits bits Look o vs ws = IsAddress o vs ws

-- the values after a cell of this kind gave its value to a place; a constant's stands
abbrev pub after_kind : CellKind → CellOperands → ℕ → List ℕ → List (List ℕ) → List ℕ
after_kind Constant o at vs ws = vs
after_kind k o at vs ws = slice_set vs at (kind_value k o vs ws)

-- MANY STEPS

-- what one cell does
pub record Step : Type 0 where
  pub kind : CellKind
  pub operands : CellOperands

-- the steps of cells of one kind
abbrev pub steps_with : CellKind → List CellOperands → List Step
steps_with k os = map (λ o. record { kind = k; operands = o }) os

-- the steps of runs, one after another
abbrev pub steps_of : List CellRun → List Step
steps_of [] = []
steps_of (r ∷ rs) = steps_with (kind_in r.kind) r.operands.items ++ steps_of rs

-- the values after a step whose value goes to a place
abbrev pub after_step : Step → ℕ → List ℕ → List (List ℕ) → List ℕ
after_step x at vs ws = after_kind x.kind x.operands at vs ws

-- the values after some steps, the first of which goes to this place
abbrev pub after_steps : List Step → ℕ → List ℕ → List (List ℕ) → List ℕ
after_steps [] at vs ws = vs
after_steps (x ∷ xs) at vs ws = after_steps xs (suc at) (after_step x at vs ws) ws

-- each step fits when its turn comes, with words of no more than so many bits
abbrev pub StepsFit : ℕ → List Step → ℕ → List ℕ → List (List ℕ) → Type 0
StepsFit bits [] at vs ws = Unit {0}
StepsFit bits (x ∷ xs) at vs ws = KindFits bits x.kind x.operands vs ws × StepsFit bits xs (suc at) (after_step x at vs ws) ws

-- WRITES

-- the arrays after one write
abbrev pub after_write : PlannedWrite → List ℕ → List (List ℕ) → List (List ℕ)
after_write p vs ws =
    if slice_index vs p.enable == 1
    then slice_set ws p.array (slice_set (slice_index_or ws p.array []) (slice_index vs p.addr) (slice_index vs p.value))
    else ws

-- the arrays after these writes, done one after the other
abbrev pub after_all : List PlannedWrite → List ℕ → List (List ℕ) → List (List ℕ)
after_all [] vs ws = ws
after_all (p ∷ ps) vs ws = after_all ps vs (after_write p vs ws)

-- a write's places are there, and its address is within its array, as in the arrays at the start
pub record WriteFits (p : PlannedWrite) (vs : List ℕ) (ws : List (List ℕ)) : Type 0 where
  pub enable : p.enable < length vs
  pub addr : p.addr < length vs
  pub value : p.value < length vs
  pub array : p.array < length ws
  pub within : slice_index vs p.addr < length (slice_index_or ws p.array [])
