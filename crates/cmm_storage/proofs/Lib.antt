pub mod NoisyLemmas
