-- Edge by edge.
use Rattle.std.proofs.Common.{inl, inr, refl, arith}
use Rattle.edges.proofs.Sizes.{refuses_size, takes_size}
use Rattle.edges.proofs.Ranges.{last_byte_declared, refused_at_the_end, cut_in_two}
use Rattle.edges.proofs.Room.{fifteen_pass, then_full}
use Rattle.edges.proofs.Gaps.{spoiled_between, no_last_part}
use Rattle.edges.proofs.Samples.{sectors_with_a_gap, sectors_with_no_last}
use Rattle.edges.proofs.Books.{in_bucket_four, twenty_stand, twenty_pass, twenty_paid, twenty_one_short}
use Rattle.edges.proofs.Fifteen.{fifteen_then_one}
use Rattle.sample_runs.proofs.Calls.{device, new_held, is_formatted}
use Rattle.edges.proofs.worked_edges.Goals as goal

pub returns : goal.returns
returns c =
    record {
      too_few = refuses_size 223 (inl (omega arith));
      just_enough = takes_size 224 160 (omega arith, omega arith) refl;
      one_is_formatted = (device, new_held.disk, new_held.state, refl, is_formatted);
      too_many = refuses_size 1089 (inr (omega arith));
      last_byte = last_byte_declared;
      past_it = refused_at_the_end 2 (inr (omega arith));
      no_bytes = refused_at_the_end 0 (inl refl);
      over_a_bound = cut_in_two;
      fifteen_pass = fifteen_pass;
      then_full = then_full;
      fifteen_then_one = fifteen_then_one;
      spoiled_between = spoiled_between;
      sectors_with_a_gap = sectors_with_a_gap;
      no_last_part = no_last_part;
      sectors_with_no_last = sectors_with_no_last;
      in_bucket_four = in_bucket_four;
      twenty_stand = twenty_stand;
      twenty_pass = twenty_pass;
      twenty_paid = twenty_paid;
      twenty_one_short = twenty_one_short;
    }
