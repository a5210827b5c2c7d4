use Rattle.std.proofs.Common.{◌≡◌, ◌<◌, ◌^◌, true, take}
use Rattle.std.specs.List.{list_all}
use Rattle.std.specs.Str.Parse.{digits_value}
use Rattle.pdl_word.proofs.numerals.read_digits.Given as goal
use Rattle.pdl_word.specs.Digits.{is_digit_of}

abbrev pub invariant-loop-byte : goal.invariant-loop-byte
invariant-loop-byte l = record {
  digits : list_all (is_digit_of l.base) (take l.byte-index l.digits) ≡ true;
  value : l.number ≡ digits_value l.base (take l.byte-index l.digits);
  below : l.number < l.base ^ l.byte-index;
}
