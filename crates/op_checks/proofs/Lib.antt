pub mod RepeatedLaws
