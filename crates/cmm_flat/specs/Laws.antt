-- Laws of the definitions beside this folder, which proofs here and in other crates cite. Nobody has to believe them.
pub mod BytesLaws
pub mod CountLaws
pub mod CommandLaws
pub mod FlatLaws
pub mod LegalLaws
pub mod KeyLaws
pub mod RangeLaws
pub mod SoundLaws
pub mod StepLaws
pub mod SumLaws
