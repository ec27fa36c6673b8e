-- Clause 12, time interleaving; clauses 5.3 and 13, the sizes of a common interleaved frame (CIF) in mode I.
use Rattle.std.specs.Prelude.{cond, List, [], ◌∷◌, ℕ, ◌*◌, ◌-◌, ◌%◌, ltb, get_or}

-- d(0), .., d(15): by how many CIFs bit i of a sub-channel's frame is delayed, by i mod 16
unfoldable pub delays : List ℕ
delays = 0 ∷ 8 ∷ 4 ∷ 12 ∷ 2 ∷ 10 ∷ 6 ∷ 14 ∷ 1 ∷ 9 ∷ 5 ∷ 13 ∷ 3 ∷ 11 ∷ 7 ∷ 15 ∷ []

abbrev pub delay : ℕ → ℕ
delay i = get_or delays (i % 16) 0

-- bit i of CIF r is bit i of the sub-channel's frame r' = r - d(i mod 16); another bit where that is before the first frame
unfoldable pub interleaved {ℓ} : {A : Type ℓ} → A → (ℕ → ℕ → A) → ℕ → ℕ → A
interleaved none frame r i = cond (ltb r (delay i)) none (frame (r - delay i) i)

-- a CIF is 864 capacity units of 64 bits, or 18 symbols of 3,072 bits; a transmission frame holds four CIFs
abbrev pub units : ℕ
units = 864

abbrev pub unit_bits : ℕ
unit_bits = 64

abbrev pub cif_bits : ℕ
cif_bits = 55296

-- mode I has 1,536 carriers, and a symbol two bits on each
abbrev pub carriers : ℕ
carriers = 1536

abbrev pub symbol_bits : ℕ
symbol_bits = 2 * carriers

abbrev pub cif_symbols : ℕ
cif_symbols = 18

abbrev pub frame_cifs : ℕ
frame_cifs = 4
