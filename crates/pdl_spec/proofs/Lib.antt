mod SingleNumber
mod PathlessParts
mod Guesses
