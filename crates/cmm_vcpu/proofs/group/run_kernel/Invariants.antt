use Rattle.cmm_vcpu.specs.KernelState.{words_of, own_words, pool_of}
use Rattle.cmm_vcpu.proofs.group.run_kernel.Given as goal

-- the names of the lock are those of the kernel
abbrev pub ghosts-run_named : goal.ghosts-run_named
ghosts-run_named g a = record { plan = a.kernel.guest.plan; words = words_of a.kernel; own = own_words a.kernel; pool = pool_of a.kernel }
