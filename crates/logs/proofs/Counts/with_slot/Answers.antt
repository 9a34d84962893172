-- `logs::Counts::with_slot`: no sum is too great, since a log has at most 999,999 slots. Assumes nothing.
use Rattle.std.proofs.Common.{arith}
use Rattle.logs.specs.Log.{counted}
use Rattle.logs.proofs.Lists.{byte_small, byte_one}
use Rattle.logs.proofs.Sound.{sound}
use Rattle.logs.proofs.Counts.with_slot.Goals as goal

pub overflow_add-result-2 : goal.overflow_add-result-2
overflow_add-result-2 c = let s = sound _ c.requires.sound in omega (arith, byte_small)

pub overflow_add-result-3 : goal.overflow_add-result-3
overflow_add-result-3 c = let s = sound _ c.requires.sound in omega (arith, byte_small)

pub overflow_add-result-4 : goal.overflow_add-result-4
overflow_add-result-4 c = let s = sound _ c.requires.sound in omega arith

pub overflow_add-result-5 : goal.overflow_add-result-5
overflow_add-result-5 c = let s = sound _ c.requires.sound in omega (arith, byte_small)

pub overflow_add-result-6 : goal.overflow_add-result-6
overflow_add-result-6 c = let s = sound _ c.requires.sound in omega (arith, byte_small)

pub overflow_add-result-7 : goal.overflow_add-result-7
overflow_add-result-7 c = let s = sound _ c.requires.sound in omega (arith, byte_small)

pub returns : goal.returns
unfolding counted
returns c = simp (c.from.ensures, c.from-2.ensures, c.from-3.ensures, c.from-4.ensures, c.from-5.ensures, c.is_corrected.ensures, c.bits_of.ensures.value, byte_one)
