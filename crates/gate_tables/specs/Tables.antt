-- The rows of the gates, in the order in which certificates number them. The last place is the output o, and `-x` is the negative of x.
use Rattle.std.specs.Prelude.{ℤ, List, [], ◌∷◌}
use Rattle.gate_tables.specs.Gates.{plus, minus, none}

-- the signs of a row over x; o
abbrev pub two : ℤ → ℤ → List ℤ
two x o = x ∷ o ∷ []

-- the signs of a row over x, y; o
abbrev pub three : ℤ → ℤ → ℤ → List ℤ
three x y o = x ∷ y ∷ o ∷ []

-- the signs of a row over x, y, z; o, or over s, x, y; o
abbrev pub four : ℤ → ℤ → ℤ → ℤ → List ℤ
four x y z o = x ∷ y ∷ z ∷ o ∷ []

-- o is x: -o x / o -x
abbrev pub same_rows : List (List ℤ)
same_rows = two plus minus ∷ two minus plus ∷ []

-- o is x and y: -o x / -o y / o -x -y
abbrev pub and_rows : List (List ℤ)
and_rows = three plus none minus ∷ three none plus minus ∷ three minus minus plus ∷ []

-- o is x or y: -o x y / o -x / o -y
abbrev pub or_rows : List (List ℤ)
or_rows = three plus plus minus ∷ three minus none plus ∷ three none minus plus ∷ []

-- o is exactly one of x and y: -o x y / -o -x -y / o -x y / o x -y
abbrev pub xor_rows : List (List ℤ)
xor_rows =
    three plus plus minus ∷ three minus minus minus ∷ three minus plus plus ∷ three plus minus plus ∷ []

-- o is the parity of x, y, z: row r has the literals that are false at x = r / 4, y = r / 2 modulo 2, z = r modulo 2,
-- and o with the sign of their parity
abbrev pub sum_rows : List (List ℤ)
sum_rows =
    four plus plus plus minus ∷ four plus plus minus plus ∷ four plus minus plus plus ∷ four plus minus minus minus
    ∷ four minus plus plus plus ∷ four minus plus minus minus ∷ four minus minus plus minus ∷ four minus minus minus plus ∷ []

-- o is the majority of x, y, z: -x -y o / -x -z o / -y -z o / x y -o / x z -o / y z -o
abbrev pub maj_rows : List (List ℤ)
maj_rows =
    four minus minus none plus ∷ four minus none minus plus ∷ four none minus minus plus
    ∷ four plus plus none minus ∷ four plus none plus minus ∷ four none plus plus minus ∷ []

-- o is x where s, else y, over s, x, y; o: -s -x o / -s x -o / s -y o / s y -o
abbrev pub mux_rows : List (List ℤ)
mux_rows =
    four minus minus none plus ∷ four minus plus none minus ∷ four plus none minus plus ∷ four plus none plus minus ∷ []

-- ---- parts of gates

-- o is 1: o
abbrev pub unit_rows : List (List ℤ)
unit_rows = (plus ∷ []) ∷ []

-- x and y are equal where o is 1: -o -x y / -o x -y
abbrev pub equal_rows : List (List ℤ)
equal_rows = three minus plus minus ∷ three plus minus minus ∷ []

-- x and y differ where o is 1: -o x y / -o -x -y
abbrev pub apart_rows : List (List ℤ)
apart_rows = three plus plus minus ∷ three minus minus minus ∷ []
