-- What a reader must believe of changing a filter over between one alpha and an alpha for each sensor.
pub mod Upgrade
