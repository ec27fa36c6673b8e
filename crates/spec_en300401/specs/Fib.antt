-- Clauses 5.2.1 and 5.2.2: the data field of a FIB, its first 30 bytes, as FIGs; the end marker; a FIG whose length passes the field's end.
use Rattle.std.specs.Prelude.{cond, List, [], ◌∷◌, ℕ, zero, suc, ◌+◌, ◌/◌, ◌%◌, eqb, ltb, length, take, drop}
use Rattle.std.proofs.Math.Option.{Option, none, some}

-- a FIG: its type, and the bytes behind its header
pub record Fig : Type 0 where
  pub type : ℕ
  pub body : List ℕ

-- the FIGs of a field in order; the offset of the header of one that passes the end, if there is such a one: it ends the field and is none of them
pub record Field : Type 0 where
  pub figs : List Fig
  pub broken : Option ℕ

abbrev pub field_end : Field
field_end = record { figs = []; broken = none }

abbrev pub broken_at : ℕ → Field
broken_at o = record { figs = []; broken = some o }

abbrev pub before : Fig → Field → Field
before g f = record { figs = g ∷ f.figs; broken = f.broken }

-- FF: type 7 with length 31
abbrev pub end_marker : ℕ
end_marker = 255

-- a header is the type, 3 bits, and the length, 5 bits: how many bytes follow it
abbrev pub type_in : ℕ → ℕ
type_in h = h / 32

abbrev pub length_in : ℕ → ℕ
length_in h = h % 32

-- the FIGs of the bytes from an offset on, n of them at the most; a FIG takes at least one byte
unfoldable pub field_from : ℕ → ℕ → List ℕ → Field
field_from zero o bs = field_end
field_from (suc n) o [] = field_end
field_from (suc n) o (h ∷ bs) =
    cond (eqb h end_marker) field_end
    (cond (ltb (length bs) (length_in h)) (broken_at o) (before (record { type = type_in h; body = take (length_in h) bs }) (field_from n (o + 1 + length_in h) (drop (length_in h) bs))))

-- a FIB is 32 bytes; its data field the first 30
abbrev pub fib_bytes : ℕ
fib_bytes = 32

abbrev pub field_bytes : ℕ
field_bytes = 30

unfoldable pub field_of : List ℕ → Field
field_of fib = field_from field_bytes 0 (take field_bytes fib)
