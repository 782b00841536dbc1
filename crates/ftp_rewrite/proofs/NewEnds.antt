-- A new text has bytes.
use Rattle.std.proofs.Common.{ℕ, ◌<◌, Bool, true, false, List, ◌++◌, length, length-append, arith, codes, cond}
use Rattle.std.specs.Prelude.{decimal, ◌/◌, ◌%◌}
use Rattle.expect_table.specs.declared.expectation.Want.{Want}
use Rattle.ftp_rewrite.specs.NewEnd.{address_and_port, address_text, is_eprt, new_end, six_numbers}

-- a sign in the middle
signed : (front sign behind : List ℕ) → 0 < length sign → 0 < length (front ++ sign ++ behind)
signed front sign behind some = omega (arith, length-append (front ++ sign) behind, length-append front sign)

six_some : (want : Want) → 0 < length (six_numbers want)
unfolding six_numbers
six_some want = signed (address_text (codes ",") want.dst ++ codes "," ++ decimal (want.port / 256)) (codes ",") (decimal (want.port % 256)) (omega arith)

port_some : (want : Want) → 0 < length (address_and_port want)
unfolding address_and_port
port_some want = signed (address_text (codes ".") want.dst) (codes "|") (decimal want.port) (omega arith)

pub new_end_some : (payload : List ℕ) (want : Want) → 0 < length (new_end payload want)
unfolding new_end
new_end_some payload want = either (is_eprt payload)
  where
    either : (test : Bool) → 0 < length (cond test (address_and_port want) (six_numbers want))
    either true = port_some want
    either false = six_some want
