-- Which sizes of device a store takes.
use Rattle.std.proofs.Common.{◌≡◌, ℕ, ◌<◌, ◌≤◌, ◌⊎◌, List, Ok, Err, Result, ◌+◌, sym, refl, ap, ◌∙◌, subst, inl, inr, arith}
use Rattle.device.specs.declared.fault.DeviceFault.{DeviceFault}
use Rattle.device.specs.declared.fault.DeviceFault.TheVariants.{Power, Misaddressed, Unfit, Spoiled}
use Rattle.device.specs.Disk.{Disk}
use Rattle.recovery.specs.declared.fault.RecoveryFault.{RecoveryFault}
use Rattle.recovery.specs.declared.fault.RecoveryFault.TheVariants as recovery
use Rattle.device.specs.Meaning.{Restarted}
use Rattle.recovery.specs.declared.opening.Recovery.{Recovery}
use Rattle.recovery.specs.Opening.{Divides, Formats, Opens, NoRestart, Recovers}
use Rattle.transactions.specs.declared.fault.StoreFault.{StoreFault}
use Rattle.transactions.specs.declared.fault.StoreFault.TheVariants.{Size}
use Rattle.transactions.specs.declared.state.State.{State}
use Rattle.transactions.specs.Fault.{number, from_recovery}
use Rattle.transactions.specs.State.{Formatted, Opened}
use Rattle.edges.specs.Sizes.{RefusesSize, TakesSize}

-- A number of sectors that no log goes with.
abbrev Wrong : ℕ → Type 0
Wrong count = (count < 224) ⊎ (1088 < count)

undivided : (count n : ℕ) → Wrong count → Divides count n → ⊥
undivided count n (inl h) d = omega (arith, d.homes, d.least, h)
undivided count n (inr h) d = omega (arith, d.homes, d.most, h)

-- a format of a device of a wrong size can only refuse it
format_refused : (d e : Disk) (g : RecoveryFault) → Wrong d.plate.sectors → Formats d (Err g) e → (from_recovery g ≡ Size d.plate.sectors) × (e ≡ d)
format_refused d e (recovery.Device (Power o)) w (n, divides, cut) = absurd (undivided d.plate.sectors n w divides)
format_refused d e (recovery.Device (Misaddressed s o)) w h = absurd h
format_refused d e (recovery.Device Unfit) w h = absurd h
format_refused d e (recovery.Device (Spoiled s o)) w h = absurd h
format_refused d e (recovery.Size count) w (size, same) = (ap Size size.0, same)
format_refused d e recovery.NoLog w h = absurd h
format_refused d e (recovery.NoMark low) w h = absurd h
format_refused d e (recovery.Uncovered page) w h = absurd h

-- and so an opening
opening_refused : (d e : Disk) (g : RecoveryFault) (memory : List ℕ) → Wrong d.plate.sectors → Opens d (Err g) e memory → (from_recovery g ≡ Size d.plate.sectors) × (e ≡ d)
opening_refused d e g memory w (inl (count, is, size, same)) = (cc (is, size.0), same)
opening_refused d e g memory w (inr (n, divides, rest)) = absurd (undivided d.plate.sectors n w divides)

formats_refused : (d e : Disk) (r : Result (Unit {0}) StoreFault) (s : State) → Wrong d.plate.sectors → Formatted d r e s → (r ≡ Err (Size d.plate.sectors)) × (e ≡ d)
formats_refused d e (Ok u) s w (n, made, fresh) = absurd (undivided d.plate.sectors n w made.0)
formats_refused d e (Err f) s w (g, is, made, blank) = let h = format_refused d e g w made in (ap Err (is ∙ h.0), h.1)

opens_refused : (d e : Disk) (r : Result (ℕ × ℕ) StoreFault) (s : State) → Wrong d.plate.sectors → Opened d r e s → (r ≡ Err (Size d.plate.sectors)) × (e ≡ d)
opens_refused d e (Ok x) s w o = absurd (undivided d.plate.sectors o.places w o.divides)
opens_refused d e (Err f) s w (g, memory, is, made, blank) = let h = opening_refused d e g memory w made in (ap Err (is ∙ h.0), h.1)

pub refuses_size : (count : ℕ) → Wrong count → RefusesSize count
refuses_size count w =
    record {
      row = refl;
      formats = λ d e r s is h. subst (λ (k : ℕ). (r ≡ Err (Size k)) × (e ≡ d)) is (formats_refused d e r s (subst Wrong (sym is) w) h);
      opens = λ d e r s is h. subst (λ (k : ℕ). (r ≡ Err (Size k)) × (e ≡ d)) is (opens_refused d e r s (subst Wrong (sym is) w) h);
    }

-- A number of sectors that is neither too small nor too large.
abbrev Right : ℕ → Type 0
Right count = (224 ≤ count) × (count ≤ 1088)

not_wrong : (count : ℕ) → Right count → Wrong count → ⊥
not_wrong count (a, b) (inl h) = omega (arith, a, h)
not_wrong count (a, b) (inr h) = omega (arith, b, h)

-- no device's fault has row 5
device_row : (f : DeviceFault) → number (from_recovery (recovery.Device f)) ≡ 5 → ⊥
device_row (Power o) e = omega (arith, e)
device_row (Misaddressed s o) e = omega (arith, e)
device_row Unfit e = omega (arith, e)
device_row (Spoiled s o) e = omega (arith, e)

format_fits : (d e : Disk) (g : RecoveryFault) → Right d.plate.sectors → Formats d (Err g) e → number (from_recovery g) ≡ 5 → ⊥
format_fits d e (recovery.Device f) w h five = device_row f five
format_fits d e (recovery.Size count) w (size, same) five = not_wrong d.plate.sectors w size.1
format_fits d e recovery.NoLog w h five = omega (arith, five)
format_fits d e (recovery.NoMark low) w h five = omega (arith, five)
format_fits d e (recovery.Uncovered page) w h five = omega (arith, five)

-- past the test of its size a device is not refused for it
later_fits : (g : RecoveryFault) (n : ℕ) (d e : Disk) (memory : List ℕ) → (NoRestart {A = Recovery} d (Err g) e ⊎ ((m : Disk) × Restarted d m × Recovers n m (Err g) e memory)) → number (from_recovery g) ≡ 5 → ⊥
later_fits (recovery.Device f) n d e memory h five = device_row f five
later_fits (recovery.Size count) n d e memory (inl h) five = h
later_fits (recovery.Size count) n d e memory (inr (m, restart, rest)) five = rest.1
later_fits recovery.NoLog n d e memory h five = omega (arith, five)
later_fits (recovery.NoMark low) n d e memory h five = omega (arith, five)
later_fits (recovery.Uncovered page) n d e memory h five = omega (arith, five)

opening_fits : (d e : Disk) (g : RecoveryFault) (memory : List ℕ) → Right d.plate.sectors → Opens d (Err g) e memory → number (from_recovery g) ≡ 5 → ⊥
opening_fits d e g memory w (inl (count, is, size, same)) five = not_wrong d.plate.sectors w size.1
opening_fits d e g memory w (inr (n, divides, rest)) five = later_fits g n d e memory rest five

pub takes_size : (count places : ℕ) → Right count → count ≡ places + 64 → TakesSize count places
takes_size count places w sum =
    record {
      formats = λ d e u s is (n, made, fresh). fresh.log.places_is ∙ omega (arith, made.0.homes, is, sum);
      opens = λ d e x s is o. o.log_of ∙ omega (arith, o.divides.homes, is, sum);
      format_fits = λ d e f s is (g, same, made, off) five. format_fits d e g (subst Right (sym is) w) made (ap number (sym same) ∙ five);
      opening_fits = λ d e f s is (g, memory, same, made, off) five. opening_fits d e g memory (subst Right (sym is) w) made (ap number (sym same) ∙ five);
    }
