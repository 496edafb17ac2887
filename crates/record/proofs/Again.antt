-- A record laid out, read field by field.
use Rattle.std.proofs.Common.{◌≡◌, ℕ, ◌-◌, ◌≤◌, ◌++◌, length, get_or, drop, replicate, refl, arith}
use Rattle.std.proofs.lemmas.List.{length-append, length-replicate}
use Rattle.record.specs.Fields.{digits, field}
use Rattle.record.specs.Entry.{Entry, laid_out}
use Rattle.record.specs.Good.{Sound}
use Rattle.record.proofs.Numbers.{value_digits}
use Rattle.record.proofs.Rules.{fits_size, fits_page}

pub kind_back : (e : Entry) → get_or (laid_out e) 30 0 ≡ e.kind
unfolding laid_out digits
kind_back e = refl

pub blank_back : (e : Entry) → get_or (laid_out e) 31 0 ≡ 0
unfolding laid_out digits
blank_back e = refl

pub rest_back : (e : Entry) → drop 32 (laid_out e) ≡ e.bytes ++ replicate (96 - length e.bytes) 0
unfolding laid_out digits
rest_back e = refl

-- a record's sector has 128 bytes.
pub long : (e : Entry) → length e.bytes ≤ 96 → length (laid_out e) ≡ 128
unfolding laid_out digits
long e small =
    let rest : length (e.bytes ++ replicate (96 - length e.bytes) 0) ≡ 96 = simp (length-append, length-replicate) (omega arith) in
    omega arith

-- the numbers of a sound record, read again
pub record Same (e : Entry) : Type 0 where
  pub serial : field 0 8 (laid_out e) ≡ e.serial
  pub low : field 8 8 (laid_out e) ≡ e.low
  pub ordinal : field 16 8 (laid_out e) ≡ e.ordinal
  pub page : field 24 2 (laid_out e) ≡ e.page
  pub offset : field 26 2 (laid_out e) ≡ e.offset
  pub size : field 28 2 (laid_out e) ≡ length e.bytes

pub again : (places place : ℕ) (e : Entry) → Sound places place e → Same e
unfolding laid_out digits
again places place e sound =
    let h = sound.placed in
    let n = fits_size e.kind e.page e.offset (length e.bytes) sound.fits in
    let p = fits_page e.kind e.page e.offset (length e.bytes) sound.fits in
    record {
      serial = value_digits 8 e.serial (omega arith);
      low = value_digits 8 e.low (omega arith);
      ordinal = value_digits 8 e.ordinal (omega arith);
      page = value_digits 2 e.page (omega arith);
      offset = value_digits 2 e.offset (omega arith);
      size = value_digits 2 (length e.bytes) (omega arith);
    }
