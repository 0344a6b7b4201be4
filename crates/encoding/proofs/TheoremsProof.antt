-- The theorems of specs/Theorems. Assumes nothing.
use mathlib.Core.Path.{refl}
use Rattle.encoding.specs.LittleEndian.{little_endian}
use Rattle.encoding.specs.Theorems.{Theorems}
use Rattle.encoding.proofs.ByteLaws.{bytes_of-bytes, bytes_of-length, little_endian-lt, read_back, word_is, written_back}

pub theorems : Theorems
unfolding little_endian
theorems = record {
  little_endian_lem = refl;
  read_back = read_back;
  written_back = written_back;
  lengths = bytes_of-length;
  fits = bytes_of-bytes;
  bounded = little_endian-lt;
  words = word_is;
}
