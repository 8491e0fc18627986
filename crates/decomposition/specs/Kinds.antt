-- The numbers of the triangular kinds: Kp is piece p of document 01. Assumes nothing.
use Rattle.std.specs.Prelude.{ℕ}
use Rattle.decomposition.specs.declared.pairing.Kind.{Kind}
use Rattle.decomposition.specs.declared.pairing.Kind.TheVariants as kind

abbrev pub kind_number : Kind → ℕ
kind_number kind.K5 = 5
kind_number kind.K6 = 6
kind_number kind.K7 = 7
kind_number kind.K8 = 8
kind_number kind.K9 = 9
kind_number kind.K10 = 10
kind_number kind.K11 = 11
kind_number kind.K12 = 12
